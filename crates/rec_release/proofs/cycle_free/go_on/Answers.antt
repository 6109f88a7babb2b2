-- The contract of `go_on`: the field behind this one comes next; behind the last one all members go to the free list.
use Rattle.std.proofs.Common.{length, arith, ap}
use Rattle.rec_counts.proofs.Times.{length-once}
use Rattle.rec_release.proofs.cycle_free.go_on.Goals as goal

pub next_member-requires : goal.next_member-requires
next_member-requires c = record { few = omega (arith, length-once (length c.args.counts.now.slots) c.args.counts.now.work c.rules.ensures.work_once, c.rules.ensures.few_slots, ap length c.work.ensures) }
