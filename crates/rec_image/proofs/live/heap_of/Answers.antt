-- The first mutator has as many registers as each.
use Rattle.std.proofs.Common.{arith}
use Rattle.rec_image.proofs.Worlds.{registers_count}
use Rattle.rec_image.proofs.live.heap_of.Goals as goal

pub overflow_cast-result : goal.overflow_cast-result
overflow_cast-result c = omega (arith, registers_count c.args.world.now c.registers.result.now c.slots.ensures.kept c.registers.ensures.registers, c.slots.ensures.kept.shaped.config.few_registers)

pub returns-clause-registers : goal.returns-clause-registers
returns-clause-registers c = registers_count c.args.world.now c.registers.result.now c.slots.ensures.kept c.registers.ensures.registers
