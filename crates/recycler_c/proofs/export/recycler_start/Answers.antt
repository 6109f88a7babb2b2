-- The contract of `recycler_start`: sets a heap at rest running.
use Rattle.std.proofs.Common.{refl}
use Rattle.recycler_c.proofs.export.recycler_start.Goals as goal

pub returns-clause-starts : goal.returns-clause-starts
returns-clause-starts c = (c.start.result, c.number.ensures, c.start.ensures.starts)

pub returns-clause-listener : goal.returns-clause-listener
returns-clause-listener c = refl
