-- The contract of `offer_slots`: makes each slot that is neither released nor Green a candidate root: it is Purple, and goes into the root buffer where it is in no buffer.
use Rattle.std.proofs.Common.{◌<◌, length, arith, ap, ◌∙◌}
use Rattle.rec_collector.proofs.Common.{State}
use Rattle.rec_collector.specs.Offered.{offered_one}
use Rattle.rec_collector.proofs.Offering.{none_offered, to_all, to_next, to_range}
use Rattle.rec_collector.proofs.offer.offer_slots.Goals as goal

pub loop-slot-init : goal.loop-slot-init
loop-slot-init c = none_offered c.args.counts.now

pub offer-requires : goal.offer-requires
offer-requires c = omega (arith, c.loop-slot-test.true, c.slots-slot-end.ensures, to_range c.loop-slot.slot c.args.counts.now, ap (λ (s : State). length s.slots) c.loop-slot.invariant)

pub loop-slot-preserved : goal.loop-slot-preserved
loop-slot-preserved c =
    let l : c.loop-slot.slot < length c.args.counts.now.slots = omega (arith, c.loop-slot-test.true, c.slots-slot-end.ensures) in
    to_next c.loop-slot.slot c.args.counts.now c.offer.new.counts l (c.offer.ensures ∙ ap (λ (s : State). offered_one s c.loop-slot.slot) c.loop-slot.invariant)

pub returns : goal.returns
returns c = c.loop-slot.invariant ∙ to_all c.loop-slot.slot c.args.counts.now (omega (arith, c.loop-slot-test.false, c.loop-slot.auto.slot-end, c.slots-slot-end.ensures))
