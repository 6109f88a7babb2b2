-- The contract of `recycler_close`: closes a heap at rest.
use Rattle.recycler_c.proofs.export.recycler_close.Goals as goal

pub returns : goal.returns
returns c = (c.close.result, c.number.ensures, c.close.ensures.closes)
