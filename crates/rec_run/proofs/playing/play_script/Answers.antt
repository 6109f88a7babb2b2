-- The outcome is that of a run from the script's opening.
use Rattle.std.proofs.Common.{subst, sym}
use Rattle.rec_core.specs.Config.{IsConfig}
use Rattle.rec_core.specs.Core.{Core}
use Rattle.rec_core.specs.Shown.{Shows}
use Rattle.rec_play.specs.Played.{config_of}
use Rattle.rec_play.specs.Shown.{IsShownWhole}
use Rattle.rec_play.specs.Start.{opening_of}
use Rattle.rec_play.proofs.Opened.{opened_starts}
use Rattle.rec_run.specs.Outcome.{IsOutcome}
use Rattle.rec_request.specs.declared.request.How.TheVariants as hows
use Rattle.std.proofs.lemmas.Result.{IfOk-weaker}
use Rattle.rec_run.proofs.playing.play_script.Goals as goal

pub play_on-requires-clause-notes : goal.play_on-requires-clause-notes
play_on-requires-clause-notes c = record { ready = c.in_ok-journals.ensures; order = c.in_ok-order.ensures.0; room = c.in_ok-order.ensures.1 }

pub returns-clause-outcome : goal.returns-clause-outcome
returns-clause-outcome c =
    let script = c.args.script.now in
    IfOk-weaker c.play_on.result _ (IsOutcome script (opening_of script) (hows.Play c.args.how))
    (λ outcome held. held (opening_of script) (sym c.in_ok-world.ensures.opened) (opened_starts script (subst (λ (w : Core). IsConfig w.config) c.in_ok-world.ensures.opened c.in_ok-world.ensures.config)))
    c.play_on.ensures.outcome

pub returns-clause-valid : goal.returns-clause-valid
returns-clause-valid c =
    IfOk-weaker c.play_on.result _ (λ outcome. IsConfig (config_of c.args.script.now))
    (λ outcome held. subst (λ (w : Core). IsConfig w.config) c.in_ok-world.ensures.opened c.in_ok-world.ensures.config)
    c.play_on.ensures.epochs

pub returns-clause-shown : goal.returns-clause-shown
returns-clause-shown c =
    IfOk-weaker c.play_on.result _ _
    (λ outcome held.
    let (shown, whole, noted, run) = held in (
      shown,
      subst (λ (w : Core). IsShownWhole c.args.script.now c.args.how.seed c.args.how.turns w shown outcome.world) c.in_ok-world.ensures.opened whole,
      noted,
      subst (λ (w : Core). Shows w shown outcome.world) c.in_ok-world.ensures.opened run,
    ))
    c.play_on.ensures.shown
