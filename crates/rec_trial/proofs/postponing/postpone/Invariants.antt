-- The loops of `postpone`: the roots up to here had their turn.
use Rattle.std.proofs.Common.{◌≡◌}
use Rattle.rec_trial.specs.Postponed.{rotated_in}
use Rattle.rec_trial.proofs.Postponed.{IsPostponed}
use Rattle.rec_trial.proofs.postponing.postpone.Given as goal

abbrev pub invariant-loop-place : goal.invariant-loop-place
invariant-loop-place l = record {
  is : l.counts ≡ rotated_in l.place l.initial.counts;
  postponed : IsPostponed l.initial.counts l.counts;
}
