-- The contract of `value_by_steps`: tells a label, step by step.
use Rattle.recycler_c.proofs.command.value_by_steps.Goals as goal

pub returns : goal.returns
returns c = (c.ask.result, c.number.ensures, rw c.value.ensures at c.ask.ensures)
