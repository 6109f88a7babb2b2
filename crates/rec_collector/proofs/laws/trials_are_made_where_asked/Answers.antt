-- The contract of `trials_are_made_where_asked`: a trial is made wherever slots are offered, wherever the policy asks for no candidate roots, and wherever it lets no trial be postponed.
use Rattle.std.proofs.Common.{arith}
use Rattle.rec_collector.proofs.Postponing.{always_tries, never_waits, offers_try, tries_when_due}
use Rattle.rec_collector.proofs.laws.trials_are_made_where_asked.Goals as goal

pub returns-clause-offered : goal.returns-clause-offered
returns-clause-offered c = offers_try

pub returns-clause-always : goal.returns-clause-always
returns-clause-always c = always_tries

pub returns-clause-none_postponed : goal.returns-clause-none_postponed
returns-clause-none_postponed c = λ w e. tries_when_due w (omega (arith, e))

pub returns-clause-none : goal.returns-clause-none
returns-clause-none c = never_waits
