-- The contract of `Counts::begin_set`: begins a set without members, behind the others.
use Rattle.rec_counts.proofs.Keeping.{keep_begin}
use Rattle.rec_counts.proofs.counts.Counts.begin_set.Goals as goal

pub invariant_of-self : goal.invariant_of-self
invariant_of-self c = rw c.begin.ensures (keep_begin c.self.invariant.0 (rw (← c.self.view_is) at c.requires), c.self.invariant.1)
