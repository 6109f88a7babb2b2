-- The slots of the chunks so far have joined the list.
use Rattle.std.proofs.Common.{◌≡◌, take}
use Rattle.std.specs.List.{flat_map}
use Rattle.rec_model.specs.Numbering.{joined}
use Rattle.rec_trace.proofs.chunks.meet_chunks.Given as goal

abbrev pub invariant-loop-chunk : goal.invariant-loop-chunk
invariant-loop-chunk l = record {
  slots : l.found.slots ≡ l.fn.found.slots;
  list : l.found.list ≡ joined l.fn.found.list (flat_map (λ chunk. chunk.items) (take l.chunk-index l.chunks));
}
