-- The loop of `make_and_drop`: makes objects and drops each.
use Rattle.std.proofs.Common.{◌≡◌}
use Rattle.rec_table.specs.Views.{IsMutatorOf}
use Rattle.rec_races.proofs.told.make_and_drop.Given as goal

abbrev pub invariant-loop : goal.invariant-loop
invariant-loop l = record {
  own : IsMutatorOf l.heap l.mutator;
  is : l.mutator ≡ record l.fn.mutator { log = l.mutator.log };
}
