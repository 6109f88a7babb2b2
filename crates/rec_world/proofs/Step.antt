-- A step of a mutator that works is one, in a heap that keeps what every heap keeps.
use Rattle.std.proofs.Common.{◌≡◌, ℕ, true, refl, Bool}
use Rattle.rec_core.proofs.Common.{is_busy, answer_of, IsMutator, Core, mutator, IsKept, Move, stepped, EndsRun}
use Rattle.rec_world.specs.Step.{IsStep}
use Rattle.rec_core.proofs.BareRuns.{move_kept}
use Rattle.rec_core.proofs.Runs.{run_more}
use Rattle.rec_core.proofs.Showing.{step_shown}
use Rattle.rec_core.proofs.Unfinished.{work_stays, step_busy, steps_counted, steps_limited}

-- the step of a mutator of a heap that some run ends in
pub step_is_one : {dated : Bool} → (w : Core) (t : ℕ) → IsKept dated w → EndsRun w → IsMutator w.config t → is_busy (mutator w t) ≡ true → IsStep w t (answer_of (mutator (stepped w t) t)) (stepped w t)
step_is_one w t kept run is busy = record {
  stepped = refl;
  answer = refl;
  busy = step_busy w t kept is busy;
  shown = step_shown w t kept is busy;
  work = work_stays w t kept is busy;
  steps = steps_counted w t kept is busy;
  limit = steps_limited (stepped w t) t (move_kept w (Move.Steps t) kept (is, busy)) is;
  run = run_more w (Move.Steps t) run (is, busy);
}
