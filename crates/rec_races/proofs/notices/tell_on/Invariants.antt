-- The loop of `tell_on`: turns until a turn comes to something else than that the collection goes on.
use Rattle.rec_table.specs.Views.{IsCollectorOf}
use Rattle.rec_races.proofs.notices.tell_on.Given as goal

abbrev pub invariant-loop : goal.invariant-loop
invariant-loop g l = record {
  own : IsCollectorOf l.heap l.collector;
  same : g.T.Tube.SameTube l.fn.teller.tube l.teller.tube;
}
