-- The contract of `Trial::scan_on`: the next marked slot becomes Black where it has a rest; after the last one collecting begins.
use Rattle.std.proofs.Common.{arith, ap, length}
use Rattle.rec_trial.proofs.Conditions.{marked_in_range}
use Rattle.rec_trial.proofs.trial.Trial.scan_on.Goals as goal

pub blacken_held-requires-clause-in_range : goal.blacken_held-requires-clause-in_range
blacken_held-requires-clause-in_range c = rw c.marked-then-self-marked.ensures (marked_in_range c.args.counts.now c.rules.ensures c.self.inside.tried (omega (arith, c.if-self-marked.true, ap length c.marked.ensures)))
