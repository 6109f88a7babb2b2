-- The loops of `tell_all`: the registers up to here are told.
use Rattle.std.proofs.Common.{◌≡◌, length, take}
use Rattle.rec_counts.specs.Targets.{named, slots_in}
use Rattle.rec_counts.specs.Telling.{Tells}
use Rattle.rec_counts.proofs.telling.tell_all.Given as goal

abbrev pub invariant-loop-place : goal.invariant-loop-place
invariant-loop-place l = record {
  marked : length l.touched.marks ≡ length l.slots;
  tells : Tells (λ x. 0) (λ x. named x (take l.place l.newer)) (slots_in (take l.place l.older)) l.initial.slots l.initial.touched l.slots l.touched;
}
