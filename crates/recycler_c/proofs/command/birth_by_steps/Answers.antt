-- The contract of `birth_by_steps`: makes an object or a leaf, step by step.
use Rattle.recycler_c.proofs.command.birth_by_steps.Goals as goal

pub returns : goal.returns
returns c = (c.ask.result, c.number.ensures, rw c.birth.ensures at c.ask.ensures)
