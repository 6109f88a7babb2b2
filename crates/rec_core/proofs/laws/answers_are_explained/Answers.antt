-- What a run keeps tells what a step shows.
use Rattle.rec_core.proofs.BareRuns.{end_kept}
use Rattle.rec_core.proofs.Showing.{step_shown}
use Rattle.rec_core.proofs.laws.answers_are_explained.Goals as goal

pub returns : goal.returns
returns c = λ w t config run. step_shown w t (end_kept w config run)
