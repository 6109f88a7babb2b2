-- The contract of `World::run`: makes turns, as long as they are of one kind.
use Rattle.rec_world.proofs.TurnRuns.{turned_once}
use Rattle.rec_world.proofs.world.World.run.Goals as goal

pub returns-in_default-clause-turned : goal.returns-in_default-clause-turned
returns-in_default-clause-turned c = turned_once c.args.self.now c.turn.new.self c.turn.result c.turn.ensures.turn
