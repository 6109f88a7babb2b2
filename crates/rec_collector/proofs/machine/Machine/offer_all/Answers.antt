-- The contract of `Machine::offer_all`: makes the next trial begin by offering every slot: each that is neither released nor Green is then a candidate root.
use Rattle.std.proofs.Common.{true}
use Rattle.rec_collector.specs.Inside.{private}
use Rattle.rec_collector.proofs.Keeping.{offers_kept}
use Rattle.rec_collector.proofs.machine.Machine.offer_all.Goals as goal

pub invariant_of-self : goal.invariant_of-self
invariant_of-self c = rw c.offer_all.ensures (offers_kept (private c.self.inside) true c.self.invariant)

pub returns-clause-kept : goal.returns-clause-kept
returns-clause-kept c = rw c.offer_all.ensures (offers_kept (private c.self.inside) true c.self.invariant)
