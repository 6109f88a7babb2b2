-- The contract of `recycler_leave`: lets a mutator leave for good.
use Rattle.recycler_c.proofs.export.recycler_leave.Goals as goal

pub returns : goal.returns
returns c = (c.ask.result, c.number.ensures, c.ask.ensures)
