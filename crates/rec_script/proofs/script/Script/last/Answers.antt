-- The contract of `Script::last`: how many commands the last mutator has.
use Rattle.std.proofs.Common.{◌≡◌, length, refl, sym, ap, subst, ◌∙◌, map, arith}
use Rattle.std.proofs.lemmas.Grind.{common_steps}
use Rattle.rec_model.specs.declared.command.Cmd.{Cmd}
use Rattle.rec_script.specs.Script.{ScriptContents, last_commands}
use Rattle.rec_script.specs.Fields.{contents}
use Rattle.rec_script.proofs.Mutators.{last_of, last_within}
use Rattle.rec_script.proofs.script.Script.last.Goals as goal

pub returns-clause-value : goal.returns-clause-value
returns-clause-value c =
    let size : c.len.result ≡ length c.self.inside.last.items = grind (arith, common_steps) in
    subst (λ (v : ScriptContents). c.len.result ≡ length (last_commands v.commands)) c.self.view_is (size ∙ ap (length {A = Cmd}) (sym (last_of (map (λ v. v.items) c.self.inside.earlier.items) c.self.inside.last.items)))

pub returns-clause-most : goal.returns-clause-most
returns-clause-most c =
    let size : c.len.result ≡ length c.self.inside.last.items = grind (arith, common_steps) in
    let within = last_within (contents c.self.inside) (map (λ v. v.items) c.self.inside.earlier.items) c.self.inside.last.items c.self.invariant refl in
    omega (arith, within.few)
