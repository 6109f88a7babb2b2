-- The contract of `Counts::clear_free`: empties the free list.
use Rattle.rec_counts.proofs.Keeping.{relisted}
use Rattle.rec_counts.proofs.Times.{once_none}
use Rattle.rec_counts.proofs.counts.Counts.clear_free.Goals as goal

pub invariant_of-self : goal.invariant_of-self
invariant_of-self c = rw c.clear.ensures (relisted c.self.invariant.0 c.self.invariant.0.marked_once c.self.invariant.0.work_once c.self.invariant.0.zeros_once (once_none _), c.self.invariant.1)
