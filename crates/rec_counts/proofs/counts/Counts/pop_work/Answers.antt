-- The contract of `Counts::pop_work`: takes the first slot out of the work list, or answers None where that is empty.
use Rattle.rec_counts.proofs.Keeping.{relisted}
use Rattle.rec_counts.proofs.Times.{once_rest}
use Rattle.rec_counts.proofs.counts.Counts.pop_work.Goals as goal

pub invariant_of-self : goal.invariant_of-self
invariant_of-self c = rw c.pop.ensures.rest (relisted c.self.invariant.0 c.self.invariant.0.marked_once (once_rest _ _ c.self.invariant.0.work_once) c.self.invariant.0.zeros_once c.self.invariant.0.free_once, c.self.invariant.1)
