-- The loops of `Trial::go_on`: the moves up to the next load, or to the end.
use Rattle.rec_trial.proofs.Common.{moves_left}
use Rattle.rec_trial.proofs.Midway.{OnTheWay}
use Rattle.rec_trial.proofs.trial.Trial.go_on.Given as goal

abbrev pub invariant-loop-counts : goal.invariant-loop-counts
invariant-loop-counts l = OnTheWay (record { machine = l.fn.self; counts = l.fn.counts }) (record { machine = l.self; counts = l.counts })

abbrev pub decreases-loop-counts : goal.decreases-loop-counts
decreases-loop-counts l = moves_left l.self.phase (record { machine = l.self; counts = l.counts })
