-- The loops of `Trial::run`: words are loaded and learnt, phase by phase.
use Rattle.std.proofs.Common.{◌≡◌, ◌-◌, ◌≤◌, IsSome}
use Rattle.rec_trial.specs.Loaded.{IsAtWork, Ran}
use Rattle.rec_trial.specs.Trial.{next_of}
use Rattle.rec_trial.proofs.trial.Trial.run.Given as goal

abbrev pub invariant-loop-made : goal.invariant-loop-made
invariant-loop-made g l = record {
  kept : IsAtWork l.trial l.counts;
  ran : Ran (record { machine = l.fn.self; counts = l.fn.counts }) l.made (record { machine = l.trial; counts = l.counts });
  few : l.made ≤ l.most;
  first : l.made ≡ 0 → IsSome (next_of l.trial);
  stands : g.L.Loads.StandsAt l.board l.seat l.made (record { machine = l.trial; counts = l.counts });
}

abbrev pub decreases-loop-made : goal.decreases-loop-made
decreases-loop-made g l = l.most - l.made
