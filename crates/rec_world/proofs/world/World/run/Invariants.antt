-- The heap as a run begins.
use Rattle.rec_world.proofs.world.World.run.Given as goal

abbrev pub ghosts-run_as : goal.ghosts-run_as
ghosts-run_as a = record { start = a.self.now }
