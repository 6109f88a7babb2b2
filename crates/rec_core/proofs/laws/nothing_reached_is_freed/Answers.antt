-- What a run keeps tells what is reached.
use Rattle.rec_core.proofs.Common.{sight, turned}
use Rattle.rec_core.proofs.BareRuns.{end_kept, reached_stays, turned_keeps}
use Rattle.rec_core.proofs.Reach.{keeps_stands_by, steps_keep_taken}
use Rattle.rec_core.proofs.laws.nothing_reached_is_freed.Goals as goal

pub returns-clause-reached : goal.returns-clause-reached
returns-clause-reached c = λ w config run. reached_stays w (end_kept w config run)

pub returns-clause-turned : goal.returns-clause-turned
returns-clause-turned c = λ w config run. turned_keeps w (end_kept w config run)

pub returns-clause-stands : goal.returns-clause-stands
returns-clause-stands c = λ w heap number config run. keeps_stands_by heap (sight w) (sight (turned w)) number (turned_keeps w (end_kept w config run))

pub returns-clause-claimed : goal.returns-clause-claimed
returns-clause-claimed c = steps_keep_taken
