-- The contract of `trials_are_not_postponed_for_ever`: each step counts the trials that are postponed in a row, and there are never more than the policy lets.
use Rattle.rec_collector.proofs.Postponing.{in_a_row, none_waits, step_counted, tries_when_due}
use Rattle.rec_collector.proofs.laws.trials_are_not_postponed_for_ever.Goals as goal

pub returns-clause-counted : goal.returns-clause-counted
returns-clause-counted c = λ p q word box op turn s. (step_counted s).postponed

pub returns-clause-few : goal.returns-clause-few
returns-clause-few c = λ p k. k.postponed

pub returns-clause-due : goal.returns-clause-due
returns-clause-due c = tries_when_due

pub returns-clause-in_a_row : goal.returns-clause-in_a_row
returns-clause-in_a_row c = in_a_row

pub returns-clause-none : goal.returns-clause-none
returns-clause-none c = none_waits
