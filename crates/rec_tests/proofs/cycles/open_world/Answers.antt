-- A script may be played on its opening.
use Rattle.std.proofs.Common.{◌∙◌, ap, subst, sym}
use Rattle.rec_core.specs.Core.{Core, opened}
use Rattle.rec_play.specs.Start.{MayBegin}
use Rattle.rec_play.proofs.Opened.{opened_begins}
use Rattle.std.proofs.lemmas.Result.{IfOk-weaker}
use Rattle.rec_tests.proofs.cycles.open_world.Goals as goal

pub returns : goal.returns
returns c =
    IfOk-weaker c.open.result _ _
    (λ (world : Core) opens. subst (MayBegin c.args.script.now) (sym (opens ∙ ap opened c.config_for.ensures.config)) (opened_begins c.args.script.now)) c.open.ensures.opened
