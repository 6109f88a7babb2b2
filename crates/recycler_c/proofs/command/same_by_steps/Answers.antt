-- The contract of `same_by_steps`: compares two registers, step by step.
use Rattle.recycler_c.proofs.command.same_by_steps.Goals as goal

pub returns : goal.returns
returns c = (c.ask.result, c.number.ensures, rw c.same.ensures at c.ask.ensures)
