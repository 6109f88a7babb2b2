-- Where memory is short nothing is told.
use Rattle.std.proofs.lemmas.Result.{IfOk-from_err}
use Rattle.recycler_watch.proofs.words.add_loss.Goals as goal

pub returns-in_err-push_str : goal.returns-in_err-push_str
returns-in_err-push_str c = IfOk-from_err c.from_residual.result _ c.from_residual.ensures.0

pub returns-in_err-push_str-2 : goal.returns-in_err-push_str-2
returns-in_err-push_str-2 c = IfOk-from_err c.from_residual-in_err-push_str-2.result _ c.from_residual-in_err-push_str-2.ensures.0
