-- The contract of `get_by_steps`: reads a field, step by step.
use Rattle.recycler_c.proofs.command.get_by_steps.Goals as goal

pub returns : goal.returns
returns c = (c.ask.result, c.number.ensures, rw c.get.ensures at c.ask.ensures)
