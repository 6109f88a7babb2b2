-- The contract of `Counts::open`: counts for this many slots, of which the first have these true counts.
use Rattle.rec_counts.proofs.Opening.{keep_from}
use Rattle.rec_counts.proofs.counts.Counts.open.Goals as goal

pub of_slots-requires-clause-kept : goal.of_slots-requires-clause-kept
of_slots-requires-clause-kept c = rw c.in_ok-counted_slots.ensures (keep_from c.args.slots c.args.counts.now c.requires c.ranges.slots.fits)
