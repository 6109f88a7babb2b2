-- The contract of `recycler_stop`: stops a running heap.
use Rattle.std.proofs.Common.{refl}
use Rattle.recycler_c.proofs.export.recycler_stop.Goals as goal

pub returns-clause-stops : goal.returns-clause-stops
returns-clause-stops c = (c.stop.result, c.number.ensures, c.stop.ensures.stops)

pub returns-clause-listener : goal.returns-clause-listener
returns-clause-listener c = refl
