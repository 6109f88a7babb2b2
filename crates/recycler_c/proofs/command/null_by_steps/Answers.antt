-- The contract of `null_by_steps`: lets a register be null, step by step.
use Rattle.recycler_c.proofs.command.null_by_steps.Goals as goal

pub returns : goal.returns
returns c = (c.ask.result, c.number.ensures, rw c.null.ensures at c.ask.ensures)
