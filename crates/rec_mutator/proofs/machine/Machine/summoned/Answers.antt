-- The contract of `Machine::summoned`: a poll goes on behind its first step.
use Rattle.std.proofs.Common.{sym, subst}
use Rattle.rec_mutator.specs.Next.{next_of}
use Rattle.rec_mutator.specs.Private.{Private}
use Rattle.rec_mutator.specs.Took.{IsFound}
use Rattle.rec_mutator.proofs.Straight.{found_poll}
use Rattle.rec_mutator.proofs.machine.Machine.summoned.Goals as goal

pub took_first-requires-clause-found : goal.took_first-requires-clause-found
took_first-requires-clause-found c = subst (λ (q : Private). IsFound q (next_of q) c.args.requested) (sym c.begin.ensures.begun) (found_poll c.args.self.now c.self.inside.from c.args.requested c.requires.found)
