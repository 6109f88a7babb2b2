-- The contract of `Machine::turns`: how many turns were made since a collection was completed last, or since the opening, beside those in which the machine waited or found the epochs spent.
use Rattle.std.proofs.Common.{◌≤◌, subst}
use Rattle.rec_collector.proofs.Common.{limit_of, Private}
use Rattle.rec_collector.proofs.Always.{within_limit}
use Rattle.rec_collector.proofs.machine.Machine.turns.Goals as goal

pub returns-clause-limit : goal.returns-clause-limit
returns-clause-limit c = subst (λ (p : Private). c.self.inside.turns ≤ limit_of p) c.self.view_is (within_limit _ c.self.invariant)
