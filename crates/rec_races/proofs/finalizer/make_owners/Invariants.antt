-- The loop of `make_owners`: the commands of the owners.
use Rattle.rec_table.specs.Views.{IsMutatorOf}
use Rattle.rec_races.proofs.finalizer.make_owners.Given as goal

abbrev pub invariant-loop-cmd : goal.invariant-loop-cmd
invariant-loop-cmd l = IsMutatorOf l.heap l.mutator
