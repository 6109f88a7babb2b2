-- What lines tell of a heap holds what they reach within its reach, and they reach all of it.
use Rattle.rec_audit.proofs.ReachAnswers.{reaches_as_run}
use Rattle.rec_audit.proofs.RunAnswers.{reach_is_of_run}
use Rattle.rec_audit.proofs.run_laws.reach_of_journals_is_of_runs.Goals as goal

pub returns-clause-within : goal.returns-clause-within
returns-clause-within c = reach_is_of_run

pub returns-clause-same : goal.returns-clause-same
returns-clause-same c = reaches_as_run
