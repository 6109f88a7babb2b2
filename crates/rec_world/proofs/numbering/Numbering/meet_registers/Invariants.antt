-- The names of the registers so far have joined the list.
use Rattle.std.proofs.Common.{◌≡◌, take}
use Rattle.rec_model.specs.Reach.{named}
use Rattle.rec_model.specs.Numbering.{joined}
use Rattle.rec_world.proofs.numbering.Numbering.meet_registers.Given as goal

abbrev pub invariant-loop-register : goal.invariant-loop-register
invariant-loop-register l = record {
  slots : l.self.slots ≡ l.fn.self.slots;
  list : l.self.list ≡ joined l.fn.self.list (named (take l.register-index l.registers));
}
