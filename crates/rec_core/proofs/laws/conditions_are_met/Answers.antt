-- What a run keeps gives what the machines ask.
use Rattle.rec_core.proofs.BareRuns.{end_kept, may_turn}
use Rattle.rec_core.proofs.Words.{may_step}
use Rattle.rec_core.proofs.laws.conditions_are_met.Goals as goal

pub returns-clause-steps : goal.returns-clause-steps
returns-clause-steps c = λ w t config run. may_step w t (end_kept w config run)

pub returns-clause-turns : goal.returns-clause-turns
returns-clause-turns c = λ w config run. may_turn w (end_kept w config run)
