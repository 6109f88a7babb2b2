-- The loops of `offer_slots`: makes each slot that is neither released nor Green a candidate root: it is Purple, and goes into the root buffer where it is in no buffer.
use Rattle.std.proofs.Common.{◌≡◌}
use Rattle.rec_collector.proofs.Offering.{offered_to}
use Rattle.rec_collector.proofs.offer.offer_slots.Given as goal

abbrev pub invariant-loop-slot : goal.invariant-loop-slot
invariant-loop-slot l = l.counts ≡ offered_to l.slot l.initial.counts
