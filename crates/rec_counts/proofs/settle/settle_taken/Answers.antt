-- The contract of `settle_taken`: settles the slots that something was taken off.
use Rattle.std.proofs.Common.{◌≡◌, ℕ, ◌<◌, length, take, get_or, cond, ltb, List, arith, refl, sym, ap, ◌∙◌}
use Rattle.std.specs.List.{filter}
use Rattle.std.proofs.lemmas.List.{get_or_default, take_all, length-append, length-take-le}
use Rattle.rec_counts.specs.declared.slot.Slot.{Slot}
use Rattle.rec_counts.specs.Batched.{is_root, is_zero}
use Rattle.rec_counts.specs.Lists.{times}
use Rattle.rec_counts.specs.Shelf.{Shelf}
use Rattle.rec_counts.specs.Slot.{absent, settled, settled_due}
use Rattle.rec_counts.specs.Touched.{mark_at, settled_where}
use Rattle.rec_counts.specs.declared.touched.Mark.TheVariants.{Untouched}
use Rattle.rec_counts.proofs.Times.{times-nil, times_at, in_range_once}
use Rattle.rec_counts.proofs.Changing.{changed_more}
use Rattle.rec_counts.proofs.Marking.{cleared_more, length-filter-le, once_before}
use Rattle.rec_counts.proofs.Settling.{listed_all, listed_next, listed_none, settled_twice}
use Rattle.rec_counts.proofs.settle.settle_taken.Goals as goal

pub loop-slot-init : goal.loop-slot-init
loop-slot-init c = record {
  marks = λ x. rw (times-nil x) refl;
  slots = λ x. rw (times-nil x) refl;
  roots = listed_none c.args.roots.now;
  zeros = listed_none c.args.zeros.now;
}

pub bounds-marks-place : goal.bounds-marks-place
bounds-marks-place c = omega (arith, c.requires.marked, in_range_once _ _ _ c.requires.once (times_at c.args.taken.now c.loop-slot.slot-index c.loop-slot-test.true))

pub bounds-slots-place : goal.bounds-slots-place
bounds-slots-place c = omega (arith, in_range_once _ _ _ c.requires.once (times_at c.args.taken.now c.loop-slot.slot-index c.loop-slot-test.true))

pub send-requires-clause-roots_room : goal.send-requires-clause-roots_room
send-requires-clause-roots_room c =
    let xs : List ℕ = filter (λ x. is_root (settled_due (get_or c.args.slots.now x absent))) (take c.loop-slot.slot-index c.args.taken.now) in
    omega (arith, ap (λ (q : Shelf). length q.list) c.loop-slot.invariant.roots, ap (λ (q : Shelf). q.room) c.loop-slot.invariant.roots, length-append c.args.roots.now.list xs, length-filter-le (λ x. is_root (settled_due (get_or c.args.slots.now x absent))) (take c.loop-slot.slot-index c.args.taken.now), length-take-le c.loop-slot.slot-index c.args.taken.now (omega arith), c.requires.roots_room)

pub send-requires-clause-zeros_room : goal.send-requires-clause-zeros_room
send-requires-clause-zeros_room c =
    let xs : List ℕ = filter (λ x. is_zero (settled_due (get_or c.args.slots.now x absent))) (take c.loop-slot.slot-index c.args.taken.now) in
    omega (arith, ap (λ (q : Shelf). length q.list) c.loop-slot.invariant.zeros, ap (λ (q : Shelf). q.room) c.loop-slot.invariant.zeros, length-append c.args.zeros.now.list xs, length-filter-le (λ x. is_zero (settled_due (get_or c.args.slots.now x absent))) (take c.loop-slot.slot-index c.args.taken.now), length-take-le c.loop-slot.slot-index c.args.taken.now (omega arith), c.requires.zeros_room)

pub loop-slot-preserved : goal.loop-slot-preserved
loop-slot-preserved c =
    let i : ℕ = c.loop-slot.slot-index in
    let xs : List ℕ = c.args.taken.now in
    let l : i < length xs = c.loop-slot-test.true in
    let r : get_or xs i 0 < length c.loop-slot.slots = omega (arith, in_range_once _ _ _ c.requires.once (times_at xs i l)) in
    let m : get_or xs i 0 < length c.loop-slot.marks = omega (arith, c.requires.marked, r) in
    let before : Slot = get_or c.loop-slot.slots (get_or xs i 0) absent in
    let was : before ≡ get_or c.args.slots.now (get_or xs i 0) absent = c.loop-slot.invariant.slots (get_or xs i 0) ∙ ap (λ k. settled_where (ltb 0 k) (get_or c.args.slots.now (get_or xs i 0) absent)) (once_before _ xs i c.requires.once l) in
    let now : c.settle-due.new.self ≡ settled before = c.settle-due.ensures.after ∙ ap settled (get_or_default c.loop-slot.slots _ _ absent r) in
    let due : c.settle-due.result ≡ settled_due (get_or c.args.slots.now (get_or xs i 0) absent) = c.settle-due.ensures.due ∙ ap settled_due (get_or_default c.loop-slot.slots _ _ absent r ∙ was) in
    record {
      marks = cleared_more c.loop-slot.marks c.args.marks.now xs i l m c.loop-slot.invariant.marks;
      slots = λ x. rw now (changed_more settled_where settled_twice c.loop-slot.slots c.args.slots.now xs i l r c.loop-slot.invariant.slots x);
      roots = c.send.ensures.roots ∙ listed_next (λ x. is_root (settled_due (get_or c.args.slots.now x absent))) c.args.roots.now c.loop-slot.roots xs i _ l (ap is_root (sym due)) c.loop-slot.invariant.roots;
      zeros = c.send.ensures.zeros ∙ listed_next (λ x. is_zero (settled_due (get_or c.args.slots.now x absent))) c.args.zeros.now c.loop-slot.zeros xs i _ l (ap is_zero (sym due)) c.loop-slot.invariant.zeros;
    }

pub returns-clause-marks : goal.returns-clause-marks
returns-clause-marks c = λ x. c.loop-slot.invariant.marks x ∙ ap (λ ys. cond (ltb 0 (times x ys)) Untouched (mark_at c.args.marks.now x)) (take_all c.loop-slot.slot-index c.args.taken.now (omega arith))

pub returns-clause-slots : goal.returns-clause-slots
returns-clause-slots c = λ x. c.loop-slot.invariant.slots x ∙ ap (λ ys. settled_where (ltb 0 (times x ys)) (get_or c.args.slots.now x absent)) (take_all c.loop-slot.slot-index c.args.taken.now (omega arith))

pub returns-clause-roots : goal.returns-clause-roots
returns-clause-roots c = listed_all (λ x. is_root (settled_due (get_or c.args.slots.now x absent))) c.args.roots.now c.loop-slot.roots c.args.taken.now c.loop-slot.slot-index (omega arith) c.loop-slot.invariant.roots

pub returns-clause-zeros : goal.returns-clause-zeros
returns-clause-zeros c = listed_all (λ x. is_zero (settled_due (get_or c.args.slots.now x absent))) c.args.zeros.now c.loop-slot.zeros c.args.taken.now c.loop-slot.slot-index (omega arith) c.loop-slot.invariant.zeros
