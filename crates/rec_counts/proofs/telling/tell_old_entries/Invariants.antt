-- The loops of `tell_old_entries`: the entries up to here are told.
use Rattle.std.proofs.Common.{◌≡◌, length, map, take}
use Rattle.rec_counts.specs.Targets.{old_target, slots_in}
use Rattle.rec_counts.specs.Telling.{Tells}
use Rattle.rec_counts.proofs.telling.tell_old_entries.Given as goal

abbrev pub invariant-loop-entry : goal.invariant-loop-entry
invariant-loop-entry l = record {
  marked : length l.touched.marks ≡ length l.slots;
  tells : Tells (λ x. 0) (λ x. 0) (slots_in (take l.entry-index (map old_target l.entries))) l.initial.slots l.initial.touched l.slots l.touched;
}
