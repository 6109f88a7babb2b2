-- The contract of `recycler_hear`: hears the next label of an object that was freed.
use Rattle.recycler_c.proofs.export.recycler_hear.Goals as goal

pub returns : goal.returns
returns c = (c.hear.result, c.number.ensures, c.hear.ensures)
