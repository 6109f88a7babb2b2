-- The contract of `put_by_steps`: writes a field, step by step.
use Rattle.recycler_c.proofs.command.put_by_steps.Goals as goal

pub returns : goal.returns
returns c = (c.ask.result, c.number.ensures, rw c.put.ensures at c.ask.ensures)
