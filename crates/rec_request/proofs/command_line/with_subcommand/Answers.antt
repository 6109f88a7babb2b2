-- The contract of `with_subcommand`: the command with one subcommand more.
use Rattle.std.proofs.Common.{◌≡◌, true, sym, subst}
use Rattle.std.specs.Result.{IfOk}
use Rattle.std.proofs.lemmas.Result.{IfOk-at_ok, IfOk-weaker}
use Rattle.clap.specs.Words.{app_of}
use Rattle.clap.specs.Words.{with_subcommand as joined}
use Rattle.rec_request.proofs.Subcommands.{no_globals}
use Rattle.rec_request.proofs.command_line.with_subcommand.Goals as goal

pub returns-clause-joined : goal.returns-clause-joined
returns-clause-joined c =
    IfOk-weaker c.subcommand.result _ _
    (λ whole added. subst (λ r. IfOk r (λ sub. app_of whole ≡ joined (app_of c.args.command) (app_of sub).top)) (sym c.in_ok-made.was)
    (added.shape (no_globals c.in_ok-made.field-0 (IfOk-at_ok (λ sub. (app_of sub).top.is_plain ≡ true) c.in_ok-made.was c.requires.plain))))
    c.subcommand.ensures
