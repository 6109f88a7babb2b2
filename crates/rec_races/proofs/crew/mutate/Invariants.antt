-- The loops of `mutate`: meets the others, and goes through the commands of a task, as many times as it says or until it is enough.
use Rattle.std.proofs.Common.{◌≡◌}
use Rattle.rec_table.specs.Views.{IsMutatorOf}
use Rattle.rec_races.proofs.crew.mutate.Given as goal

abbrev pub invariant-loop : goal.invariant-loop
invariant-loop l = record {
  own : IsMutatorOf l.heap l.mutator;
  is : l.mutator ≡ record l.fn.mutator { log = l.mutator.log };
}
