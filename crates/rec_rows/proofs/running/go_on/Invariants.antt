-- The loops of `go_on`: makes these steps, up to one of which something else is told.
use Rattle.rec_table.specs.Views.{AreMutatorsOf, IsCollectorOf}
use Rattle.rec_rows.proofs.running.go_on.Given as goal

abbrev pub invariant-steps : goal.invariant-steps
invariant-steps l = record {
  mutators : AreMutatorsOf l.heap l.mutators.items;
  collector : IsCollectorOf l.heap l.collector;
}
