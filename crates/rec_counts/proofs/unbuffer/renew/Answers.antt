-- The contract of `renew`.
use Rattle.std.proofs.Common.{◌<◌, length, get_or, arith, refl}
use Rattle.std.proofs.lemmas.List.{get_or_default}
use Rattle.rec_counts.specs.Slot.{absent, renewed_if}
use Rattle.rec_counts.proofs.Times.{times-nil, times_at, in_range_once}
use Rattle.rec_counts.proofs.unbuffer.renew.Goals as goal
use Rattle.rec_counts.proofs.Leaving.{renewed_twice}
use Rattle.rec_counts.proofs.Changing.{changed_more}

pub loop-slot-init : goal.loop-slot-init
loop-slot-init c = λ x. rw (times-nil x) refl

pub bounds-slots-slot : goal.bounds-slots-slot
bounds-slots-slot c = omega (arith, in_range_once _ _ _ c.requires (times_at c.args.members.now c.loop-slot.slot-index c.loop-slot-test.true))

pub loop-slot-preserved : goal.loop-slot-preserved
loop-slot-preserved c =
    let r : get_or c.args.members.now c.loop-slot.slot-index 0 < length c.loop-slot.slots = omega (arith, in_range_once _ _ _ c.requires (times_at c.args.members.now c.loop-slot.slot-index c.loop-slot-test.true)) in
    λ x. rw (get_or_default c.loop-slot.slots (get_or c.args.members.now c.loop-slot.slot-index 0) _ absent r) (changed_more renewed_if renewed_twice c.loop-slot.slots c.args.slots.now c.args.members.now c.loop-slot.slot-index c.loop-slot-test.true r c.loop-slot.invariant x)
