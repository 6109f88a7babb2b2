-- The contract of `Counts::clear_marked`: empties the marked list.
use Rattle.rec_counts.proofs.Keeping.{relisted}
use Rattle.rec_counts.proofs.Times.{once_none}
use Rattle.rec_counts.proofs.counts.Counts.clear_marked.Goals as goal

pub invariant_of-self : goal.invariant_of-self
invariant_of-self c = rw c.truncate.ensures (relisted c.self.invariant.0 (once_none _) c.self.invariant.0.work_once c.self.invariant.0.zeros_once c.self.invariant.0.free_once, c.self.invariant.1)
