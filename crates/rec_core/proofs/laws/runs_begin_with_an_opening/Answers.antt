-- Every run began with an opening.
use Rattle.rec_core.proofs.Runs.{run_opens}
use Rattle.rec_core.proofs.laws.runs_begin_with_an_opening.Goals as goal

pub returns : goal.returns
returns c = run_opens
