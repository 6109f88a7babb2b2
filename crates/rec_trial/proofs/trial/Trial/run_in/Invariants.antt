-- The loops of `Trial::run_in`: words of one phase are loaded and learnt.
use Rattle.std.proofs.Common.{◌≡◌, IsSome}
use Rattle.rec_trial.specs.Loaded.{IsAtWork, Ran}
use Rattle.rec_trial.specs.Trial.{Work, next_of}
use Rattle.rec_trial.proofs.trial.Trial.run_in.Given as goal

abbrev pub invariant-loop-made : goal.invariant-loop-made
invariant-loop-made g l = record {
  phase : l.phase ≡ l.self.phase;
  busy : IsSome (next_of l.self);
  kept : IsAtWork l.self l.counts;
  ran : (first : Work) → Ran first l.from (record { machine = l.fn.self; counts = l.fn.counts }) → Ran first l.made (record { machine = l.self; counts = l.counts });
  stands : g.L.Loads.StandsAt l.board l.seat l.made (record { machine = l.self; counts = l.counts });
}
