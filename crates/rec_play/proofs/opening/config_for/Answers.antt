-- The contract of `config_for`: the numbers of the heap that a script is played on.
use Rattle.std.proofs.Common.{◌≡◌, max, length, sym, ap, subst, ◌∙◌}
use Rattle.rec_collector.specs.Private.{plain}
use Rattle.rec_core.specs.Config.{IsConfig}
use Rattle.rec_core.specs.declared.config.Config.{Config}
use Rattle.rec_script.specs.Script.{ScriptContents}
use Rattle.rec_play.specs.Played.{config_of, log_room}
use Rattle.rec_play.proofs.Ready.{config_is, longest_is, script_config}
use Rattle.rec_play.proofs.opening.config_for.Goals as goal

pub returns : goal.returns
returns c =
    let script : ScriptContents = c.args.script.now in
    let room : c.max.result ≡ log_room script = c.max.ensures ∙ ap (λ n. max n 1) (sym (longest_is script.commands c.longest.result c.longest.ensures.bound c.longest.ensures.reached)) in
    let mutators : c.from.result ≡ length script.commands = c.from.ensures ∙ c.mutators.ensures.value in
    let made : Config = record { slots = c.slots.result; fields = c.fields.result; registers = c.registers.result; mutators = c.from.result; log_entries = c.max.result; first_epoch = 1; policy = plain } in
    let is : made ≡ config_of script = config_is script c.slots.result c.fields.result c.registers.result c.from.result c.max.result c.slots.ensures.value c.fields.ensures.value c.registers.ensures.value mutators room in
    record { config = is; valid = subst IsConfig (sym is) (script_config script c.slots.ensures.valid) }
