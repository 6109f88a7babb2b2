-- The loops of `release_next`: the first of the zeros is released, and its first field is due.
use Rattle.std.proofs.Common.{length}
use Rattle.rec_release.proofs.Keeping.{OnTheWay}
use Rattle.rec_release.proofs.release.release_next.Given as goal

abbrev pub invariant-loop-at : goal.invariant-loop-at
invariant-loop-at l = OnTheWay l.initial.counts l.counts

abbrev pub decreases-loop-at : goal.decreases-loop-at
decreases-loop-at l = length l.counts.zeros
