-- The contract of `trial_is_exact`: on words that do not change, the marked slots are exactly those on a path of fields from a Purple root that is not released, on which no slot is Green, the last one included.
use Rattle.rec_trial.proofs.Exactly.{whole_exact}
use Rattle.rec_trial.proofs.laws.trial_is_exact.Goals as goal

pub returns : goal.returns
returns c = whole_exact
