-- The contract of `with_subcommands`: the command with two subcommands more.
use Rattle.std.proofs.Common.{◌∙◌, ap, ap₂}
use Rattle.std.proofs.lemmas.Result.{IfOk-weaker}
use Rattle.clap.specs.Words.{App, with_subcommand}
use Rattle.rec_request.proofs.Subcommands.{no_globals}
use Rattle.rec_request.proofs.command_line.with_subcommands.Goals as goal

pub returns-clause-joined : goal.returns-clause-joined
returns-clause-joined c = IfOk-weaker c.subcommand.result _ _
    (λ whole added. IfOk-weaker c.args.made _ _
    (λ sub front. added.shape (no_globals c.new.result (ap (λ (a : App). a.top.is_plain) c.new.ensures.app)) ∙ ap₂ with_subcommand front (ap (λ (a : App). a.top) c.new.ensures.app)) c.in_ok-with_subcommand.ensures.joined) c.subcommand.ensures
