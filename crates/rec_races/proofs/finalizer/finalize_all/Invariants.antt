-- The loop of `finalize_all`: turns, and drops the payloads of freed objects.
use Rattle.rec_table.specs.Views.{IsCollectorOf, IsMutatorOf}
use Rattle.rec_races.proofs.finalizer.finalize_all.Given as goal

abbrev pub invariant-loop : goal.invariant-loop
invariant-loop g l = record {
  mutator : IsMutatorOf l.heap l.mutator;
  collector : IsCollectorOf l.heap l.collector;
}
