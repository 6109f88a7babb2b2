-- No line is at fault, by either rule.
use Rattle.rec_audit.proofs.RunAnswers.{run_answered}
use Rattle.rec_audit.proofs.run_laws.journals_of_runs_are_answered_yes.Goals as goal

pub returns : goal.returns
returns c = run_answered
