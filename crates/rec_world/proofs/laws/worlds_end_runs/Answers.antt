-- The contract of `worlds_end_runs`: a world is the end of some run from its opening.
use Rattle.rec_world.proofs.laws.worlds_end_runs.Goals as goal

pub returns : goal.returns
returns c = λ w world. world.run
