-- The contract of `Trial::run_on`: goes on with a run up to the end of a phase. Something is due, so a trial is at work.
use Rattle.std.proofs.Common.{sym, ap, ◌∙◌}
use Rattle.rec_trial.proofs.Common.{Machine}
use Rattle.rec_trial.proofs.Learning.{busy_phase}
use Rattle.rec_trial.proofs.trial.Trial.run_on.Goals as goal

pub unreachable-requires : goal.unreachable-requires
unreachable-requires g c = busy_phase c.args.self.now (ap (λ (m : Machine). m.phase) (sym c.self.view_is) ∙ c.in-Idle.is) c.requires.busy
