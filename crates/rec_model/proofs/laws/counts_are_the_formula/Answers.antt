-- The ledger, less the words of late epochs.
use Rattle.rec_model.proofs.Consequences.{counted_by_formula}
use Rattle.rec_model.proofs.laws.counts_are_the_formula.Goals as goal

pub returns : goal.returns
returns c = counted_by_formula
