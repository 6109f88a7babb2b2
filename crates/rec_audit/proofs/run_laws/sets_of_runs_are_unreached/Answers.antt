-- Each line is clear where it stands.
use Rattle.rec_audit.proofs.RunAnswers.{no_reach_fault}
use Rattle.rec_audit.proofs.run_laws.sets_of_runs_are_unreached.Goals as goal

pub returns : goal.returns
returns c = no_reach_fault
