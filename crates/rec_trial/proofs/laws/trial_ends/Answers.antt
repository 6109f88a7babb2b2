-- The contract of `trial_ends`: a trial is over after at most three loads a field.
use Rattle.rec_trial.proofs.Whole.{whole_ends}
use Rattle.rec_trial.proofs.laws.trial_ends.Goals as goal

pub returns : goal.returns
returns c = whole_ends
