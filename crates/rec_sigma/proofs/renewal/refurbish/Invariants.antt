-- The loops of `refurbish`: takes set `set`, the last one, out of the cycle buffer, and gives each of its members its place, in the order of the set.
use Rattle.std.proofs.Common.{length}
use Rattle.rec_sigma.proofs.Renewals.{Waits}
use Rattle.rec_sigma.proofs.renewal.refurbish.Given as goal

abbrev pub invariant-loop-slot : goal.invariant-loop-slot
invariant-loop-slot l = Waits l.first l.fn.counts l.counts

abbrev pub decreases-loop-slot : goal.decreases-loop-slot
decreases-loop-slot l = length l.counts.work
