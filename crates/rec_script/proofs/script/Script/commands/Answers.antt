-- The contract of `Script::commands`: the commands of a mutator.
use Rattle.std.proofs.Common.{◌≡◌, ◌-◌, ◌+◌, ◌<◌, [], ◌∷◌, ◌++◌, List, Some, length, map, refl, sym, ap, subst, ◌∙◌, arith, length-append}
use Rattle.std.specs.Prelude.{slice_get}
use Rattle.std.proofs.lemmas.List.{length-map}
use Rattle.std.proofs.lemmas.Grind.{common_steps}
use Rattle.rec_model.specs.declared.command.Cmd.{Cmd}
use Rattle.rec_script.specs.Script.{ScriptContents, AreCommands}
use Rattle.rec_script.specs.Fields.{contents}
use Rattle.rec_script.proofs.Mutators.{last_within, earlier_at, last_at}
use Rattle.rec_script.proofs.script.Script.commands.Goals as goal

pub returns-then-index-len-clause-valid : goal.returns-then-index-len-clause-valid
returns-then-index-len-clause-valid c =
    let lt : c.from-index.result - 1 < length c.self.inside.earlier.items = grind (arith, common_steps) in
    let is = earlier_at (λ v. v.items) c.self.inside.earlier.items c.self.inside.last.items (c.from-index.result - 1) c.index.result.now lt c.index.ensures in
    let within : c.from-index.result - 1 < length (map (λ v. v.items) c.self.inside.earlier.items ++ c.self.inside.last.items ∷ []) = rw length-append (rw length-map (omega arith)) in
    subst (λ (v : ScriptContents). AreCommands v.version v.registers v.fields c.deref.result.now) c.self.view_is
    (subst (λ (cmds : List Cmd). AreCommands c.self.inside.version c.self.inside.registers c.self.inside.fields cmds) (is ∙ sym c.deref.ensures.value) (c.self.invariant.commands (c.from-index.result - 1) [] within))

pub returns-else-index-len-clause-value : goal.returns-else-index-len-clause-value
returns-else-index-len-clause-value c =
    let index : c.from-index.result ≡ c.args.t = c.from-index.ensures in
    let size : length c.args.self.now.commands ≡ length c.self.inside.earlier.items + 1 = sym (ap (λ (v : ScriptContents). length v.commands) c.self.view_is) ∙ rw length-append (rw length-map refl) in
    let ge : c.len.result ≡ length c.self.inside.earlier.items = grind (arith, common_steps) in
    let at : c.args.t - 1 ≡ length (map (λ v. v.items) c.self.inside.earlier.items) = rw length-map (omega (arith, c.requires.some, c.requires.most)) in
    subst (λ (v : ScriptContents). slice_get v.commands (c.args.t - 1) ≡ Some c.deref-else-index-len.result.now) c.self.view_is
    (last_at (map (λ v. v.items) c.self.inside.earlier.items) c.self.inside.last.items (c.args.t - 1) at ∙ ap Some (sym c.deref-else-index-len.ensures.value))

pub returns-else-index-len-clause-valid : goal.returns-else-index-len-clause-valid
returns-else-index-len-clause-valid c =
    subst (λ (v : ScriptContents). AreCommands v.version v.registers v.fields c.deref-else-index-len.result.now) c.self.view_is
    (subst (λ (cmds : List Cmd). AreCommands c.self.inside.version c.self.inside.registers c.self.inside.fields cmds) (sym c.deref-else-index-len.ensures.value)
    (last_within (contents c.self.inside) (map (λ v. v.items) c.self.inside.earlier.items) c.self.inside.last.items c.self.invariant refl))
