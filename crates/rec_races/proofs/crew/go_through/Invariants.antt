-- The loops of `go_through`: carries out the commands in order, with a poll after each.
use Rattle.std.proofs.Common.{◌≡◌}
use Rattle.rec_table.specs.Views.{IsMutatorOf}
use Rattle.rec_races.proofs.crew.go_through.Given as goal

abbrev pub invariant-loop-cmd : goal.invariant-loop-cmd
invariant-loop-cmd l = record {
  own : IsMutatorOf l.heap l.mutator;
  is : l.mutator ≡ record l.fn.mutator { log = l.mutator.log };
}
