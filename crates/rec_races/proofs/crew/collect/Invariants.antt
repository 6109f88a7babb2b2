-- The loops of `collect`: meets the mutators, and turns within these limits, as long as they work.
use Rattle.rec_table.specs.Views.{IsCollectorOf}
use Rattle.rec_races.proofs.crew.collect.Given as goal

abbrev pub invariant-loop : goal.invariant-loop
invariant-loop l = IsCollectorOf l.heap l.collector
