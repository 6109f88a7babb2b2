-- The loops of `tell_new_entries`: the entries up to here are told.
use Rattle.std.proofs.Common.{◌≡◌, [], length, map, take}
use Rattle.rec_counts.specs.Targets.{leaf_born, named, new_target}
use Rattle.rec_counts.specs.Telling.{Tells}
use Rattle.rec_counts.proofs.telling.tell_new_entries.Given as goal

abbrev pub invariant-loop-entry : goal.invariant-loop-entry
invariant-loop-entry l = record {
  marked : length l.touched.marks ≡ length l.slots;
  tells : Tells (λ x. named x (take l.entry-index (map leaf_born l.entries))) (λ x. named x (take l.entry-index (map new_target l.entries))) [] l.initial.slots l.initial.touched l.slots l.touched;
}
