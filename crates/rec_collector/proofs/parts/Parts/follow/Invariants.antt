-- The loops of `Parts::follow`: what follows where this was begun: while nothing was, the next set is tested, and after the last one a trial begins.
use Rattle.std.proofs.Common.{length}
use Rattle.rec_collector.proofs.Answering.{IsUnderTest}
use Rattle.rec_collector.proofs.parts.Parts.follow.Given as goal

abbrev pub invariant-loop-self : goal.invariant-loop-self
invariant-loop-self l = IsUnderTest (record { parts = l.fn.self; phase = l.fn.begun }) (record { parts = l.self; phase = l.begun })

abbrev pub decreases-loop-self : goal.decreases-loop-self
decreases-loop-self l = length l.self.counts.sets
