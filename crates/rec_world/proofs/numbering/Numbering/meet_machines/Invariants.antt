-- The names of the registers of the mutators so far have joined the list.
use Rattle.std.proofs.Common.{◌≡◌, take, map}
use Rattle.rec_model.specs.Heap.{roots}
use Rattle.rec_model.specs.Numbering.{joined}
use Rattle.rec_world.proofs.numbering.Numbering.meet_machines.Given as goal

abbrev pub invariant-loop-machine : goal.invariant-loop-machine
invariant-loop-machine l = record {
  slots : l.self.slots ≡ l.fn.self.slots;
  list : l.self.list ≡ joined l.fn.self.list (roots (take l.machine-index (map (λ p. p.registers) l.machines)));
}
