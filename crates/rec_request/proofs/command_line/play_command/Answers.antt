-- The contract of `play_command`: the subcommand that plays a script.
use Rattle.std.proofs.Common.{ap, codes, ◌∙◌}
use Rattle.std.proofs.lemmas.Result.{IfOk-weaker}
use Rattle.clap.specs.Words.{App, Text, with_rule}
use Rattle.rec_request.specs.CommandLine.{flag}
use Rattle.rec_request.proofs.command_line.play_command.Goals as goal

abbrev flags : App → Text → Text → App
flags command first second = with_rule (with_rule command (flag first)) (flag second)

pub returns : goal.returns
returns c =
    let two_more = c.in_ok-command-2.ensures ∙ ap (λ a. flags a (codes "summary") (codes "trace")) c.in_ok-command.ensures in
    IfOk-weaker c.with_flags-2.result _ _ (λ whole is. is ∙ ap (λ a. flags a (codes "audit") (codes "image")) two_more) c.with_flags-2.ensures
