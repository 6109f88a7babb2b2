-- The outcome is that of a run from the image's heap.
use Rattle.rec_play.specs.Start.{Start}
use Rattle.rec_run.specs.Outcome.{IsOutcome}
use Rattle.rec_run.specs.Resuming.{IsRestoredFor}
use Rattle.rec_request.specs.declared.request.How.TheVariants as hows
use Rattle.std.proofs.lemmas.Result.{IfOk-weaker}
use Rattle.rec_run.proofs.resuming.resume_script.Goals as goal

pub play_on-requires-clause-notes : goal.play_on-requires-clause-notes
play_on-requires-clause-notes c = record { ready = c.in_ok-journals.ensures; order = c.in_ok-order.ensures.0; room = c.in_ok-order.ensures.1 }

pub returns-clause-outcome : goal.returns-clause-outcome
returns-clause-outcome c =
    let (start, first, restored) = c.in_ok-world.ensures.start in
    IfOk-weaker c.play_on.result _ (λ outcome. (start : Start) × IsRestoredFor c.args.image.now c.args.script.now start × IsOutcome c.args.script.now start (hows.Play c.args.how) outcome)
    (λ outcome held. (start, restored, held start first restored.starts))
    c.play_on.ensures.outcome
