-- The contract of `OnWords`' `make`: a turn of a run, on the words of the heap.
use Rattle.rec_world.proofs.TurnRuns.{run_may, stands_on}
use Rattle.rec_world.proofs.world.runs.OnWordsTurnsUnitMemory.make.Goals as goal

pub perform-requires : goal.perform-requires
perform-requires g c = (run_may g.W.Starting.start c.args.memory.now c.requires.0 c.requires.1 c.args.op c.requires.2 c.requires.3 c.requires.4).within

pub returns : goal.returns
returns g c = λ n p stands looped named. stands_on g.W.Starting.start c.args.memory.now n p c.args.op stands looped named c.perform.new.self c.perform.result c.perform.ensures.found c.perform.ensures.left
