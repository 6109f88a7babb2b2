-- The slots so far have joined the list.
use Rattle.std.proofs.Common.{◌≡◌, take}
use Rattle.rec_model.specs.Numbering.{joined}
use Rattle.rec_trace.proofs.chunks.meet_chunk.Given as goal

abbrev pub invariant-loop-slot : goal.invariant-loop-slot
invariant-loop-slot l = record {
  slots : l.found.slots ≡ l.fn.found.slots;
  list : l.found.list ≡ joined l.fn.found.list (take l.slot-index l.chunk);
}
