-- The loops of `leave`: asks to leave until it has left.
use Rattle.std.proofs.Common.{◌≡◌}
use Rattle.rec_table.specs.Views.{IsMutatorOf}
use Rattle.rec_races.proofs.crew.leave.Given as goal

abbrev pub invariant-loop : goal.invariant-loop
invariant-loop l = record {
  own : IsMutatorOf l.heap l.mutator;
  is : l.mutator ≡ record l.fn.mutator { log = l.mutator.log };
}
