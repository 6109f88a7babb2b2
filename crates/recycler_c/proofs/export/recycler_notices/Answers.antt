-- The contract of `recycler_notices`: asks for notices.
use Rattle.std.proofs.Common.{refl}
use Rattle.recycler_c.proofs.export.recycler_notices.Goals as goal

pub returns-clause-asks : goal.returns-clause-asks
returns-clause-asks c = (c.ask_for.result, c.number.ensures, c.ask_for.ensures.asks)

pub returns-clause-mutators : goal.returns-clause-mutators
returns-clause-mutators c = refl
