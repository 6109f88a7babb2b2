-- The contract of `give_up`.
use Rattle.std.proofs.Common.{◌≡◌, ◌<◌, length, get_or, arith, refl, ap, ◌∙◌}
use Rattle.std.proofs.lemmas.List.{get_or_default}
use Rattle.rec_counts.specs.Slot.{absent, given_up_if, unbuffered}
use Rattle.rec_counts.proofs.Times.{times-nil, times_at, in_range_once}
use Rattle.rec_counts.proofs.unbuffer.give_up.Goals as goal
use Rattle.rec_counts.proofs.Leaving.{given_up_twice}
use Rattle.rec_counts.proofs.Changing.{changed_more}

pub loop-slot-init : goal.loop-slot-init
loop-slot-init c = λ x. rw (times-nil x) refl

pub bounds-slots-slot : goal.bounds-slots-slot
bounds-slots-slot c = omega (arith, in_range_once _ _ _ c.requires (times_at c.args.members.now c.loop-slot.slot-index c.loop-slot-test.true))

pub loop-slot-preserved : goal.loop-slot-preserved
loop-slot-preserved c =
    let r : get_or c.args.members.now c.loop-slot.slot-index 0 < length c.loop-slot.slots = omega (arith, in_range_once _ _ _ c.requires (times_at c.args.members.now c.loop-slot.slot-index c.loop-slot-test.true)) in
    let left : c.leave.new.self ≡ unbuffered (get_or c.loop-slot.slots (get_or c.args.members.now c.loop-slot.slot-index 0) absent) = c.leave.ensures ∙ ap unbuffered (get_or_default c.loop-slot.slots _ _ absent r) in
    λ x. rw left (changed_more given_up_if given_up_twice c.loop-slot.slots c.args.slots.now c.args.members.now c.loop-slot.slot-index c.loop-slot-test.true r c.loop-slot.invariant x)
