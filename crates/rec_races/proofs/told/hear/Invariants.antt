-- The loop of `hear`: hears so many labels.
use Rattle.rec_notice.specs.Ring.{SameListener}
use Rattle.rec_races.proofs.told.hear.Given as goal

abbrev pub invariant-loop : goal.invariant-loop
invariant-loop l = SameListener l.fn.listener l.listener
