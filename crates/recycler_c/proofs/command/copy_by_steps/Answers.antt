-- The contract of `copy_by_steps`: copies a register, step by step.
use Rattle.recycler_c.proofs.command.copy_by_steps.Goals as goal

pub returns : goal.returns
returns c = (c.ask.result, c.number.ensures, rw c.copy.ensures at c.ask.ensures)
