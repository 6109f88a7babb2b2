-- Where memory is short nothing is told.
use Rattle.std.proofs.lemmas.Result.{IfOk-from_err}
use Rattle.recycler_watch.proofs.line.add_headings.Goals as goal

pub returns-in_err-push_str : goal.returns-in_err-push_str
returns-in_err-push_str c = IfOk-from_err c.from_residual.result _ c.from_residual.ensures.0

pub returns-in_err-write : goal.returns-in_err-write
returns-in_err-write c = IfOk-from_err c.from_residual-in_err-write.result _ c.from_residual-in_err-write.ensures.0
