-- The list has the names of the registers and of the fields of the slots before `next`, each slot where it is first met.
use Rattle.std.proofs.Common.{◌≡◌, ◌-◌, map}
use Rattle.rec_world.specs.Numbering.{sight_of}
use Rattle.rec_world.proofs.Filled.{IsFilled}
use Rattle.rec_world.proofs.numbering.Numbering.fill.Given as goal

abbrev pub invariant-loop-next : goal.invariant-loop-next
invariant-loop-next l = record {
  slots : l.self.slots ≡ l.fn.self.slots;
  filled : IsFilled (sight_of (map (λ p. p.registers) l.machines) l.words l.fields) l.next l.self.list;
}

abbrev pub decreases-loop-next : goal.decreases-loop-next
decreases-loop-next l = l.fn.self.slots - l.next
