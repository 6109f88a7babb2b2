-- Lines that may stand so are the beginning of a journal in form.
use Rattle.rec_audit.proofs.Completing.{completed}
use Rattle.rec_audit.proofs.laws.lines_are_a_beginning.Goals as goal

pub returns : goal.returns
returns c = completed
