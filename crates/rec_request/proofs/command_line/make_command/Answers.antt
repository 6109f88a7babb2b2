-- The contract of `make_command`: the subcommand that makes a script.
use Rattle.std.proofs.Common.{ap₂, codes, ◌≡◌, ◌∙◌}
use Rattle.std.proofs.lemmas.Result.{IfOk-weaker}
use Rattle.clap.specs.Words.{app_of, new_app, with_rule}
use Rattle.rec_request.specs.CommandLine.{option}
use Rattle.rec_request.proofs.command_line.make_command.Goals as goal

pub returns : goal.returns
returns c =
    let two_are : app_of c.in_ok-arg-2.field-0 ≡ with_rule (with_rule (new_app (codes "make")) (option (codes "seed"))) (option (codes "mutators")) =
    c.in_ok-arg-2.ensures.shape c.option-2.ensures.own
    ∙ ap₂ with_rule (c.in_ok-arg.ensures.shape c.option.ensures.own ∙ ap₂ with_rule c.new.ensures.app c.option.ensures.rule) c.option-2.ensures.rule in
    IfOk-weaker c.arg-3.result _ _ (λ command added. added.shape c.option-3.ensures.own ∙ ap₂ with_rule two_are c.option-3.ensures.rule) c.arg-3.ensures
