-- The contract of `go_on`: the field behind this one comes next; behind the last one of its set, the first of the next set.
use Rattle.std.proofs.Common.{length, arith, ap}
use Rattle.rec_counts.proofs.Keeping.{each_once}
use Rattle.rec_counts.proofs.Times.{length-once}
use Rattle.rec_sigma.proofs.prepare.go_on.Goals as goal

pub next_member-requires : goal.next_member-requires
next_member-requires c = record { few = omega (arith, length-once _ _ (each_once c.args.counts.now c.in-Some.at.set c.rules.ensures), c.rules.ensures.few_slots, ap length c.set.ensures) }
