-- The contract of `with_flags`: the command with two flags more.
use Rattle.std.proofs.Common.{ap₂, refl, ◌∙◌}
use Rattle.std.proofs.lemmas.Result.{IfOk-weaker}
use Rattle.clap.specs.Words.{with_rule}
use Rattle.rec_request.proofs.command_line.with_flags.Goals as goal

pub returns : goal.returns
returns c =
    IfOk-weaker c.arg-2.result _ _ (λ whole added. added.shape c.flag-2.ensures.own ∙ ap₂ with_rule (c.in_ok-arg.ensures.shape c.flag.ensures.own ∙ ap₂ with_rule refl c.flag.ensures.rule) c.flag-2.ensures.rule) c.arg-2.ensures
