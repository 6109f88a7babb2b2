-- The contract of `command`: the program's command.
use Rattle.std.proofs.Common.{rules, ap, refl, codes, true, ◌≡◌, ◌∙◌}
use Rattle.std.proofs.lemmas.Result.{IfOk-weaker}
use Rattle.clap.specs.Words.{App, app_of, new_app, with_subcommand}
use Rattle.clap.specs.Simple.{app_of_fields, new_shape}
use Rattle.clap.specs.declared.builder.command.Command.TheViews.{out-Command}
use Rattle.rec_request.specs.CommandLine.{make, play, resume}
use Rattle.rec_request.proofs.Subcommands.{is_plain, joins, last_joins}
use Rattle.rec_request.proofs.command_line.command.Goals as goal

-- the settings of the program's command
abbrev settings : App → App
settings a =
    record a {
      top =
          record a.top {
            disable_help_flag = true;
            disable_help_subcommand = true;
            disable_version_flag = true;
            subcommand_required = true;
          };
    }

pub with_subcommands-requires : goal.with_subcommands-requires
with_subcommands-requires c = record { plain = is_plain c.play_command.result play refl c.play_command.ensures }

pub with_subcommands-requires-2 : goal.with_subcommands-requires-2
with_subcommands-requires-2 c = record { plain = is_plain c.make_command.result make refl c.make_command.ensures }

pub with_subcommand-requires : goal.with_subcommand-requires
with_subcommand-requires c = record { plain = is_plain c.resume_command.result resume refl c.resume_command.ensures }

pub returns : goal.returns
returns c =
    let first : App = app_of c.subcommand_required-command.result in
    let second : App = app_of c.in_ok-command.command in
    let third : App = app_of c.in_ok-command-2.command in
    let fields_are : out-Command c.subcommand_required-command.result ≡ record (out-Command c.new.result) { disable_help_flag = true; disable_help_subcommand = true; disable_version_flag = true; subcommand_required = true } = search rules in
    let first_is : first ≡ settings (new_app (codes "recycler")) = ap app_of_fields fields_are ∙ ap settings c.new.ensures.app in
    let second_is = joins c.play_command.result second (λ sub. with_subcommand (with_subcommand first sub) (new_shape (codes "threads"))) play c.in_ok-command.ensures.made c.play_command.ensures c.in_ok-command.ensures.joined ∙ ap (λ a. with_subcommand (with_subcommand a play) (new_shape (codes "threads"))) first_is in
    let third_is = joins c.make_command.result third (λ sub. with_subcommand (with_subcommand second sub) (new_shape (codes "audit"))) make c.in_ok-command-2.ensures.made c.make_command.ensures c.in_ok-command-2.ensures.joined ∙ ap (λ a. with_subcommand (with_subcommand a make) (new_shape (codes "audit"))) second_is in
    IfOk-weaker c.with_subcommand.result _ _ (λ whole is. is ∙ ap (λ a. with_subcommand a resume) third_is)
    (last_joins c.with_subcommand.result c.resume_command.result (with_subcommand third) resume c.with_subcommand.ensures.made c.resume_command.ensures c.with_subcommand.ensures.joined)
