-- The contract of `Script::has_left`: whether the last mutator has left.
use Rattle.std.proofs.Common.{◌≡◌, ◌-◌, List, Some, length, map, sym, ap, subst, ◌∙◌}
use Rattle.std.specs.Prelude.{slice_get}
use Rattle.std.specs.Option.{option_copied}
use Rattle.std.proofs.lemmas.Option.{none-some, same_Some}
use Rattle.rec_model.specs.declared.command.Cmd.{Cmd}
use Rattle.rec_model.specs.declared.command.Cmd.TheVariants.{Leave}
use Rattle.rec_script.specs.Script.{ScriptContents, last_commands}
use Rattle.rec_script.proofs.Mutators.{last_of}
use Rattle.rec_script.proofs.script.Script.has_left.Goals as goal
use Rattle.rec_script.proofs.script.Script.has_left.Goals.{After-last}

-- what was found is the last command of the last mutator
found : (c : After-last) → option_copied c.last.result ≡ slice_get (last_commands c.args.self.now.commands) (length (last_commands c.args.self.now.commands) - 1)
found c =
    let mine : last_commands c.args.self.now.commands ≡ c.deref.result.now =
    subst (λ (v : ScriptContents). last_commands v.commands ≡ c.deref.result.now) c.self.view_is
    (last_of (map (λ v. v.items) c.self.inside.earlier.items) c.self.inside.last.items ∙ sym c.deref.ensures.value) in
    subst (λ (cmds : List Cmd). option_copied c.last.result ≡ slice_get cmds (length cmds - 1)) (sym mine) c.last.ensures.value

pub returns-in-Some-clause-value : goal.returns-in-Some-clause-value
returns-in-Some-clause-value c =
    let at = sym (ap option_copied c.in-Some.is) ∙ found (goal.at.returns-in-Some-clause-value c).After-last in
    (λ t. sym at ∙ ap Some (c.is_leave.ensures.0 t), λ h. c.is_leave.ensures.1 (same_Some c.in-Some.cmd.now Leave (at ∙ h)))

pub returns-in-None-clause-value : goal.returns-in-None-clause-value
returns-in-None-clause-value c =
    let at = sym (ap option_copied c.in-None.is) ∙ found (goal.at.returns-in-None-clause-value c).After-last in
    (λ t. absurd cc, λ h. absurd (none-some Leave (at ∙ h)))
