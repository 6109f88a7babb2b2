-- The steps so far finished nothing, and a work ends in time.
use Rattle.std.proofs.Common.{◌≡◌, ◌+◌, ◌-◌, true}
use Rattle.rec_world.proofs.Common.{is_busy, work_of, mutator, IsWorld}
use Rattle.rec_core.specs.Unfinished.{Waits}
use Rattle.rec_core.specs.Worked.{StepsTo}
use Rattle.rec_world.proofs.world.World.finish.Given as goal

abbrev pub invariant-loop-made : goal.invariant-loop-made
invariant-loop-made l = record {
  path : StepsTo l.fn.self l.t l.self;
  waits : Waits l.fn.self l.self l.t;
  work : work_of (mutator l.self l.t) ≡ work_of (mutator l.fn.self l.t);
  busy : is_busy (mutator l.self l.t) ≡ true;
  world : IsWorld l.self;
}

abbrev pub decreases-loop-made : goal.decreases-loop-made
decreases-loop-made l = l.fn.self.config.slots + 3 - (mutator l.self l.t).steps
