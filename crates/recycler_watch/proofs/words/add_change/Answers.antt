-- Where memory is short nothing is told.
use Rattle.std.proofs.lemmas.Result.{IfOk-from_err}
use Rattle.recycler_watch.proofs.words.add_change.Goals as goal

pub returns-in_err-write : goal.returns-in_err-write
returns-in_err-write c = IfOk-from_err c.from_residual.result _ c.from_residual.ensures.0

pub returns-in_err-add_counts : goal.returns-in_err-add_counts
returns-in_err-add_counts c = IfOk-from_err c.from_residual-in_err-add_counts.result _ c.from_residual-in_err-add_counts.ensures.0

pub returns-in_err-add_colour : goal.returns-in_err-add_colour
returns-in_err-add_colour c = IfOk-from_err c.from_residual-in_err-add_colour.result _ c.from_residual-in_err-add_colour.ensures.0

pub returns-in_err-add_loss : goal.returns-in_err-add_loss
returns-in_err-add_loss c = IfOk-from_err c.from_residual-in_err-add_loss.result _ c.from_residual-in_err-add_loss.ensures.0

pub returns-in_err-add_set : goal.returns-in_err-add_set
returns-in_err-add_set c = IfOk-from_err c.from_residual-in_err-add_set.result _ c.from_residual-in_err-add_set.ensures.0
