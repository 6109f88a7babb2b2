-- The loops of `tell_older`: the buffers up to here are told.
use Rattle.std.proofs.Common.{◌≡◌, length, take}
use Rattle.std.specs.List.{flat_map}
use Rattle.rec_counts.specs.Targets.{held, slots_in, taken_targets, told_buffers}
use Rattle.rec_counts.specs.Telling.{Tells}
use Rattle.rec_counts.proofs.telling.tell_older.Given as goal

abbrev pub invariant-loop-place : goal.invariant-loop-place
invariant-loop-place l = record {
  marked : length l.touched.marks ≡ length l.slots;
  tells : Tells (λ x. 0) (λ x. held x (take l.place (told_buffers l.steady l.newer l.older))) (slots_in (flat_map taken_targets (take l.place (told_buffers l.steady l.older l.newer)))) l.initial.slots l.initial.touched l.slots l.touched;
}
