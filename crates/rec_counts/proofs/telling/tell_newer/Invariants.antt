-- The loops of `tell_newer`: the buffers up to here are told.
use Rattle.std.proofs.Common.{◌≡◌, [], length, take}
use Rattle.rec_counts.specs.Targets.{leaves, written}
use Rattle.rec_counts.specs.Telling.{Tells}
use Rattle.rec_counts.proofs.telling.tell_newer.Given as goal

abbrev pub invariant-loop-buffer : goal.invariant-loop-buffer
invariant-loop-buffer l = record {
  marked : length l.touched.marks ≡ length l.slots;
  tells : Tells (λ x. leaves x (take l.buffer-index l.newer)) (λ x. written x (take l.buffer-index l.newer)) [] l.initial.slots l.initial.touched l.slots l.touched;
}
