-- The loops of `+hire`: starts a worker for each mutator.
use Rattle.std.proofs.Common.{vec_len}
use Rattle.rec_threads.proofs.driving.+hire.Given as goal

abbrev pub decreases-hire : goal.decreases-hire
decreases-hire g l = vec_len l.crew.mutators
