-- As long as no set is refused of which a member was touched, each slot hangs on something that the collector has still to look at.
use Rattle.rec_prompt.proofs.Covered.{between_covers, mutators_cover, run_covers}
use Rattle.rec_prompt.proofs.Offered.{offered_again}
use Rattle.rec_prompt.proofs.laws.nothing_is_forgotten.Goals as goal

pub returns-clause-run : goal.returns-clause-run
returns-clause-run c = run_covers

pub returns-clause-between : goal.returns-clause-between
returns-clause-between c = between_covers

pub returns-clause-offered : goal.returns-clause-offered
returns-clause-offered c = offered_again

pub returns-clause-mutators : goal.returns-clause-mutators
returns-clause-mutators c = mutators_cover
