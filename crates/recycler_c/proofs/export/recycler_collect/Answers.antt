-- The contract of `recycler_collect`: turns of the collector of a running heap.
use Rattle.recycler_c.proofs.export.recycler_collect.Goals as goal

pub returns : goal.returns
returns c = (c.collect.result, c.number.ensures, c.collect.ensures)
