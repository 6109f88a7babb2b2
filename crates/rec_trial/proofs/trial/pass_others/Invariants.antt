-- The loops of `pass_others`: the marked slots so far are passed.
use Rattle.std.proofs.Common.{ℕ, ◌<◌, ◌≤◌}
use Rattle.rec_trial.specs.Trial.{IsPassed}
use Rattle.rec_trial.specs.declared.phase.Phase.TheVariants.{Collecting}
use Rattle.rec_trial.proofs.trial.pass_others.Given as goal

abbrev pub invariant-loop-tried : goal.invariant-loop-tried
invariant-loop-tried l = (i : ℕ) → l.from ≤ i → i < l.tried → IsPassed Collecting l.counts i
