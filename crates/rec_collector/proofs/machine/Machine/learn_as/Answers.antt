-- The contract of `Machine::learn_as`: learns a word, by what kind of phase it is.
use Rattle.std.proofs.Common.{◌∙◌, sym}
use Rattle.rec_collector.proofs.Common.{IsGiven, took_of, turn_of}
use Rattle.rec_collector.proofs.PhaseKinds.{of_releasing, of_freeing, of_trying, of_preparing, of_sweeping}
use Rattle.rec_collector.proofs.machine.Machine.learn_as.Goals as goal

pub took_release-requires-clause-releasing : goal.took_release-requires-clause-releasing
took_release-requires-clause-releasing c = of_releasing c.args.self.now.phase (sym c.in-Releasing.is ∙ c.requires.kind)

pub took_release-requires-clause-given : goal.took_release-requires-clause-given
unfolding IsGiven
took_release-requires-clause-given c = c.requires.given

pub returns-in-Releasing : goal.returns-in-Releasing
unfolding took_of turn_of
returns-in-Releasing c = record { took = c.took_release.ensures.took; turn = c.took_release.ensures.turn; same = c.took_release.ensures.same; kept = c.took_release.ensures.kept }

pub took_freeing-requires-clause-freeing : goal.took_freeing-requires-clause-freeing
took_freeing-requires-clause-freeing c = of_freeing c.args.self.now.phase (sym c.in-Freeing.is ∙ c.requires.kind)

pub took_freeing-requires-clause-given : goal.took_freeing-requires-clause-given
unfolding IsGiven
took_freeing-requires-clause-given c = c.requires.given

pub returns-in-Freeing : goal.returns-in-Freeing
unfolding took_of turn_of
returns-in-Freeing c = record { took = c.took_freeing.ensures.took; turn = c.took_freeing.ensures.turn; same = c.took_freeing.ensures.same; kept = c.took_freeing.ensures.kept }

pub took_trial-requires-clause-trying : goal.took_trial-requires-clause-trying
took_trial-requires-clause-trying c = of_trying c.args.self.now.phase (sym c.in-Trying.is ∙ c.requires.kind)

pub took_trial-requires-clause-given : goal.took_trial-requires-clause-given
unfolding IsGiven
took_trial-requires-clause-given c = c.requires.given

pub returns-in-Trying : goal.returns-in-Trying
unfolding took_of turn_of
returns-in-Trying c = record { took = c.took_trial.ensures.took; turn = c.took_trial.ensures.turn; same = c.took_trial.ensures.same; kept = c.took_trial.ensures.kept }

pub took_prep-requires-clause-preparing : goal.took_prep-requires-clause-preparing
took_prep-requires-clause-preparing c = of_preparing c.args.self.now.phase (sym c.in-Preparing.is ∙ c.requires.kind)

pub took_prep-requires-clause-given : goal.took_prep-requires-clause-given
unfolding IsGiven
took_prep-requires-clause-given c = c.requires.given

pub returns-in-Preparing : goal.returns-in-Preparing
unfolding took_of turn_of
returns-in-Preparing c = record { took = c.took_prep.ensures.took; turn = c.took_prep.ensures.turn; same = c.took_prep.ensures.same; kept = c.took_prep.ensures.kept }

pub took_sweep-requires : goal.took_sweep-requires
took_sweep-requires c = record { sweeping = of_sweeping c.args.self.now.phase (sym c.in-Sweeping.is ∙ c.requires.kind) }

pub returns-in-Sweeping : goal.returns-in-Sweeping
unfolding took_of turn_of
returns-in-Sweeping c = record { took = c.took_sweep.ensures.took; turn = c.took_sweep.ensures.turn; same = c.took_sweep.ensures.same; kept = c.took_sweep.ensures.kept }
