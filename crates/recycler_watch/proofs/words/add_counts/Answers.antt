-- Where memory is short nothing is told.
use Rattle.std.proofs.lemmas.Result.{IfOk-from_err}
use Rattle.recycler_watch.proofs.words.add_counts.Goals as goal

pub returns-in_err-write : goal.returns-in_err-write
returns-in_err-write c = IfOk-from_err c.from_residual.result _ c.from_residual.ensures.0

pub returns-in_err-write-2 : goal.returns-in_err-write-2
returns-in_err-write-2 c = IfOk-from_err c.from_residual-in_err-write-2.result _ c.from_residual-in_err-write-2.ensures.0
