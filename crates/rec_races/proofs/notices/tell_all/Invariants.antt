-- The loop of `tell_all`: tells on until the collection is complete.
use Rattle.rtrb.specs.Ring.{SameProducer}
use Rattle.rec_table.specs.Views.{IsCollectorOf}
use Rattle.rec_races.proofs.notices.tell_all.Given as goal

abbrev pub invariant-loop : goal.invariant-loop
invariant-loop l = record {
  own : IsCollectorOf l.heap l.tells.collector;
  same : SameProducer l.fn.tells.teller.tube.producer l.tells.teller.tube.producer;
}
