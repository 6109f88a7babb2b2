-- The loops of `Trial::take_roots`: roots are taken, one after another.
use Rattle.std.proofs.Common.{ℕ}
use Rattle.rec_trial.specs.Loaded.{HasMoved}
use Rattle.rec_trial.proofs.Common.{moves_left}
use Rattle.rec_trial.proofs.trial.Trial.take_roots.Given as goal

abbrev pub invariant-loop-counts : goal.invariant-loop-counts
invariant-loop-counts l = (n : ℕ) × HasMoved (record { machine = l.initial.self; counts = l.initial.counts }) n (record { machine = l.self; counts = l.counts })

abbrev pub decreases-loop-counts : goal.decreases-loop-counts
decreases-loop-counts l = moves_left l.self.phase (record { machine = l.self; counts = l.counts })
