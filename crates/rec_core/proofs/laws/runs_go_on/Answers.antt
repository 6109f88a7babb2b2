-- The contract of `runs_go_on`: a run goes on with every move that fits its end.
use Rattle.rec_core.proofs.Runs.{run_more}
use Rattle.rec_core.proofs.laws.runs_go_on.Goals as goal

pub returns : goal.returns
returns c = run_more
