-- The loops of `settle_added`: the slots up to here that are only added to are in use, and have no mark any more.
use Rattle.std.proofs.Common.{◌≡◌, ℕ, ◌&&◌, ltb, cond, take, get_or}
use Rattle.rec_counts.specs.Lists.{times}
use Rattle.rec_counts.specs.Slot.{absent}
use Rattle.rec_counts.specs.Touched.{is_added, mark_at, used_where}
use Rattle.rec_counts.specs.declared.touched.Mark.TheVariants.{Untouched}
use Rattle.rec_counts.proofs.settle.settle_added.Given as goal

abbrev pub invariant-loop-slot : goal.invariant-loop-slot
invariant-loop-slot l = record {
  marks : (x : ℕ) → mark_at l.marks x ≡ cond (ltb 0 (times x (take l.slot-index l.added)) && is_added (mark_at l.initial.marks x)) Untouched (mark_at l.initial.marks x);
  slots : (x : ℕ) → get_or l.slots x absent ≡ used_where (ltb 0 (times x (take l.slot-index l.added)) && is_added (mark_at l.initial.marks x)) (get_or l.initial.slots x absent);
}
