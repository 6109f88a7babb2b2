-- The loop of `listen`: hears as long as the collector turns.
use Rattle.rec_notice.specs.Ring.{SameListener}
use Rattle.rec_races.proofs.told.listen.Given as goal

abbrev pub invariant-loop : goal.invariant-loop
invariant-loop l = SameListener l.fn.listens.listener l.listens.listener
