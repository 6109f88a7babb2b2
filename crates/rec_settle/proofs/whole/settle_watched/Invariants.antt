-- Settling has come so far from the heap that it was given, and each turn leaves fewer. The watch was shown all turns so far.
use Rattle.std.proofs.Common.{◌≡◌, ◌≤◌, List}
use Rattle.rec_collector.specs.Shown.{Shown}
use Rattle.rec_settle.specs.Collecting.{AreIdle}
use Rattle.rec_settle.specs.Left.{left_in}
use Rattle.rec_settle.specs.Shown.{IsShownTo}
use Rattle.rec_settle.specs.Stages.{HasCome}
use Rattle.rec_settle.proofs.whole.settle_watched.Given as goal

abbrev pub invariant-loop : goal.invariant-loop
invariant-loop g l = record {
  comes : HasCome l.fn.world l.settling l.world;
  idle : AreIdle l.world;
  config : l.world.config ≡ l.fn.world.config;
  shown : (shown : List Shown) × IsShownTo l.fn.world shown l.settling l.world × g.W.Watch.WasShown l.fn.watch shown l.watch;
  never_falls : g.W.Watch.refused l.fn.watch ≤ g.W.Watch.refused l.watch;
}

abbrev pub decreases-loop : goal.decreases-loop
decreases-loop g l = left_in l.settling l.world
