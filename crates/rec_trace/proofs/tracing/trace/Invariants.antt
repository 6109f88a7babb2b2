-- The trace has come to the frontier that begins at slot number `first` of the list.
use Rattle.std.proofs.Common.{◌≡◌, ◌-◌}
use Rattle.rec_world.specs.World.{sight}
use Rattle.rec_world.proofs.Filled.{IsFilled}
use Rattle.rec_trace.proofs.tracing.trace.Given as goal

abbrev pub invariant-loop-first : goal.invariant-loop-first
invariant-loop-first g l = record {
  slots : l.found.slots ≡ l.world.config.slots;
  filled : IsFilled (sight l.world) l.first l.found.list;
}

abbrev pub decreases-loop-first : goal.decreases-loop-first
decreases-loop-first g l = l.world.config.slots - l.first
