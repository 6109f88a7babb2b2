-- The contract of `run_command`: a subcommand that runs commands.
use Rattle.std.proofs.Common.{ap₂, ◌∙◌}
use Rattle.std.proofs.lemmas.Result.{IfOk-weaker}
use Rattle.clap.specs.Words.{with_rule}
use Rattle.rec_request.proofs.command_line.run_command.Goals as goal

pub returns : goal.returns
returns c =
    IfOk-weaker c.arg-2.result _ _
    (λ command added. added.shape c.option-2.ensures.own
    ∙ ap₂ with_rule (c.in_ok-arg.ensures.shape c.option.ensures.own ∙ ap₂ with_rule c.new.ensures.app c.option.ensures.rule) c.option-2.ensures.rule) c.arg-2.ensures
