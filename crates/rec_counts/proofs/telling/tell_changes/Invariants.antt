-- The loops of `tell_changes`: the registers up to here are told.
use Rattle.std.proofs.Common.{◌≡◌, true, length, take}
use Rattle.rec_counts.specs.Targets.{named, slots_in, told_registers}
use Rattle.rec_counts.specs.Telling.{Tells}
use Rattle.rec_counts.proofs.telling.tell_changes.Given as goal

abbrev pub invariant-loop-place : goal.invariant-loop-place
invariant-loop-place l = record {
  marked : length l.touched.marks ≡ length l.slots;
  tells : Tells (λ x. 0) (λ x. named x (take l.place (told_registers true l.newer l.older))) (slots_in (take l.place (told_registers true l.older l.newer))) l.initial.slots l.initial.touched l.slots l.touched;
}
