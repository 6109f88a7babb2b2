-- Every run keeps it.
use Rattle.rec_audit.proofs.Runs.{run_keeps}
use Rattle.rec_audit.proofs.run_laws.steps_of_runs_keep_order.Goals as goal

pub returns-clause-keep : goal.returns-clause-keep
returns-clause-keep c = λ config shown end is shows. (run_keeps config shown end is shows).keep

pub returns-clause-place : goal.returns-clause-place
returns-clause-place c = λ config shown end is shows. (run_keeps config shown end is shows).ends
