-- The contract of `trial_is_witnessed`: when a trial is over, whatever words it was given: a member has at most as many references as there are fields that marking found to lead to it; and where such a field is of no member, blackening found another word there.
use Rattle.rec_trial.proofs.Witnesses.{whole_witnessed}
use Rattle.rec_trial.proofs.laws.trial_is_witnessed.Goals as goal

pub returns : goal.returns
returns c = whole_witnessed
