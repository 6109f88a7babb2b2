-- The loops of `settle_taken`: the slots up to here are settled, and have no mark any more.
use Rattle.std.proofs.Common.{◌≡◌, ℕ, ◌++◌, ltb, cond, take, get_or}
use Rattle.std.specs.List.{filter}
use Rattle.rec_counts.specs.Batched.{is_root, is_zero}
use Rattle.rec_counts.specs.Lists.{times}
use Rattle.rec_counts.specs.Slot.{absent, settled_due}
use Rattle.rec_counts.specs.Touched.{mark_at, settled_where}
use Rattle.rec_counts.specs.declared.touched.Mark.TheVariants.{Untouched}
use Rattle.rec_counts.proofs.settle.settle_taken.Given as goal

abbrev pub invariant-loop-slot : goal.invariant-loop-slot
invariant-loop-slot l = record {
  marks : (x : ℕ) → mark_at l.marks x ≡ cond (ltb 0 (times x (take l.slot-index l.taken))) Untouched (mark_at l.initial.marks x);
  slots : (x : ℕ) → get_or l.slots x absent ≡ settled_where (ltb 0 (times x (take l.slot-index l.taken))) (get_or l.initial.slots x absent);
  roots : l.roots ≡ record l.initial.roots { list = l.initial.roots.list ++ filter (λ x. is_root (settled_due (get_or l.initial.slots x absent))) (take l.slot-index l.taken) };
  zeros : l.zeros ≡ record l.initial.zeros { list = l.initial.zeros.list ++ filter (λ x. is_zero (settled_due (get_or l.initial.slots x absent))) (take l.slot-index l.taken) };
}
