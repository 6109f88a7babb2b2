-- What the registers of the mutators so far name has joined the list.
use Rattle.std.proofs.Common.{◌≡◌, [], take}
use Rattle.rec_model.specs.Heap.{roots}
use Rattle.rec_model.specs.Numbering.{joined}
use Rattle.rec_world.specs.World.{sight}
use Rattle.rec_trace.proofs.tracing.meet_roots.Given as goal

abbrev pub invariant-loop-i : goal.invariant-loop-i
invariant-loop-i l = record {
  slots : l.found.slots ≡ l.fn.found.slots;
  list : l.found.list ≡ joined [] (roots (take l.i (sight l.world).registers));
}
