-- The contract of `settle_added`: settles the slots that were only added to.
use Rattle.std.proofs.Common.{ℕ, ◌<◌, ◌&&◌, List, cond, ltb, length, get_or, arith, refl, ap, ◌∙◌}
use Rattle.std.proofs.lemmas.List.{take_all}
use Rattle.rec_counts.specs.declared.touched.Mark.TheVariants.{Untouched}
use Rattle.rec_counts.specs.Lists.{times}
use Rattle.rec_counts.specs.Slot.{absent}
use Rattle.rec_counts.specs.Touched.{is_added, mark_at, used_where}
use Rattle.rec_counts.proofs.Times.{times-nil, times_at, in_range_once}
use Rattle.rec_counts.proofs.Settling.{marks_used, slots_used}
use Rattle.rec_counts.proofs.settle.settle_added.Goals as goal

pub loop-slot-init : goal.loop-slot-init
loop-slot-init c = record { marks = λ x. rw (times-nil x) refl; slots = λ x. rw (times-nil x) refl }

pub use_added-requires-clause-marked : goal.use_added-requires-clause-marked
use_added-requires-clause-marked c = omega (arith, c.requires.marked, in_range_once _ _ _ c.requires.once (times_at c.args.added.now c.loop-slot.slot-index c.loop-slot-test.true))

pub use_added-requires-clause-in_range : goal.use_added-requires-clause-in_range
use_added-requires-clause-in_range c = omega (arith, in_range_once _ _ _ c.requires.once (times_at c.args.added.now c.loop-slot.slot-index c.loop-slot-test.true))

pub loop-slot-preserved : goal.loop-slot-preserved
loop-slot-preserved c =
    let i : ℕ = c.loop-slot.slot-index in
    let xs : List ℕ = c.args.added.now in
    let l : i < length xs = c.loop-slot-test.true in
    let r : get_or xs i 0 < length c.loop-slot.slots = omega (arith, in_range_once _ _ _ c.requires.once (times_at xs i l)) in
    let m : get_or xs i 0 < length c.loop-slot.marks = omega (arith, c.requires.marked, r) in
    record {
      marks = λ x. rw c.use_added.ensures.marks (marks_used c.loop-slot.marks c.args.marks.now xs i l m c.loop-slot.invariant.marks x);
      slots = λ x. rw c.use_added.ensures.slots (slots_used c.loop-slot.marks c.args.marks.now c.loop-slot.slots c.args.slots.now xs i l r c.loop-slot.invariant.marks c.loop-slot.invariant.slots x);
    }

pub returns-clause-marks : goal.returns-clause-marks
returns-clause-marks c = λ x. c.loop-slot.invariant.marks x ∙ ap (λ ys. cond (ltb 0 (times x ys) && is_added (mark_at c.args.marks.now x)) Untouched (mark_at c.args.marks.now x)) (take_all c.loop-slot.slot-index c.args.added.now (omega arith))

pub returns-clause-slots : goal.returns-clause-slots
returns-clause-slots c = λ x. c.loop-slot.invariant.slots x ∙ ap (λ ys. used_where (ltb 0 (times x ys) && is_added (mark_at c.args.marks.now x)) (get_or c.args.slots.now x absent)) (take_all c.loop-slot.slot-index c.args.added.now (omega arith))
