-- The loops of `make`: mutator 1 of a world makes the cycle.
use Rattle.std.proofs.Common.{◌≡◌}
use Rattle.rec_races.specs.Ready.{IsReady}
use Rattle.rec_races.proofs.ring.make.Given as goal

abbrev pub invariant-loop-cmd : goal.invariant-loop-cmd
invariant-loop-cmd l = record {
  ready : IsReady l.world;
  collector : l.world.collector ≡ l.fn.world.collector;
}
