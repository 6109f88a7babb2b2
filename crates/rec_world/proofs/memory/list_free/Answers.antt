-- Slot by slot the free ones come in.
use Rattle.std.proofs.Common.{arith}
use Rattle.rec_world.proofs.memory.list_free.Goals as goal

pub slots-init : goal.slots-init
slots-init c = record { listed = λ s few. absurd (omega (arith, few)); others = λ s past. c.clear.ensures s }
