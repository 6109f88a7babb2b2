-- The loop of `tell`: turns and tells.
use Rattle.rtrb.specs.Ring.{SameProducer}
use Rattle.rec_table.specs.Views.{IsCollectorOf}
use Rattle.rec_races.proofs.told.tell.Given as goal

abbrev pub invariant-loop : goal.invariant-loop
invariant-loop l = record {
  own : IsCollectorOf l.heap l.tells.collector;
  same : SameProducer l.fn.tells.teller.tube.producer l.tells.teller.tube.producer;
}
