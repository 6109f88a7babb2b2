-- The loop of `make`: asks for an object until there is room for it.
use Rattle.std.proofs.Common.{◌≡◌}
use Rattle.rec_table.specs.Views.{IsMutatorOf}
use Rattle.rec_races.proofs.told.make.Given as goal

abbrev pub invariant-loop : goal.invariant-loop
invariant-loop l = record {
  own : IsMutatorOf l.heap l.mutator;
  is : l.mutator ≡ record l.fn.mutator { log = l.mutator.log };
}
