-- The contract of `trial_is_whole`: when a trial is over, whatever words it was given: each marked slot is a member or Black; a member is named by at least as many words that marking loaded as its true count, and by none that blackening loaded; and no field of a member leads to a member of a later set.
use Rattle.rec_trial.proofs.Whole.{whole_over}
use Rattle.rec_trial.proofs.laws.trial_is_whole.Goals as goal

pub returns : goal.returns
returns c = whole_over
