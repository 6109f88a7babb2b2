-- The loop of `hear_rest`: hears the labels that still wait.
use Rattle.rec_notice.specs.Ring.{AreEnds}
use Rattle.rec_races.proofs.told.hear_rest.Given as goal

abbrev pub invariant-loop : goal.invariant-loop
invariant-loop l = AreEnds l.teller.tube l.listener
