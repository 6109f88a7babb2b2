-- So many turns were made, and each moved.
use Rattle.std.proofs.Common.{◌-◌, ◌≤◌}
use Rattle.rec_collector.specs.declared.turn.Turn.TheVariants.{Moved}
use Rattle.rec_world.specs.Turning.{HasTurned}
use Rattle.rec_world.specs.World.{IsWorld}
use Rattle.rec_world.proofs.world.World.turns.Given as goal

abbrev pub invariant-loop-made : goal.invariant-loop-made
invariant-loop-made l = record {
  turned : HasTurned l.fn.self l.made l.self Moved;
  few : l.made ≤ l.most;
  kept : IsWorld l.self;
}

abbrev pub decreases-loop-made : goal.decreases-loop-made
decreases-loop-made l = l.most - l.made
