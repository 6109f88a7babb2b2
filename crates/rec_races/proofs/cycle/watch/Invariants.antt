-- The loops of `watch`: the collector turns until it has swept two slots in one collection, and the mutator polls where the collector waits for it.
use Rattle.rec_races.specs.Ready.{IsReady}
use Rattle.rec_races.proofs.cycle.watch.Given as goal

abbrev pub invariant-loop-turn : goal.invariant-loop-turn
invariant-loop-turn g l = IsReady l.world
