-- The contract of `Script::add_mutator`: a mutator more, without commands.
use Rattle.std.proofs.Common.{◌≡◌, ◌<◌, [], ◌∷◌, ◌++◌, List, length, map, sym, ap, subst, ◌∙◌}
use Rattle.std.proofs.lemmas.List.{map-append}
use Rattle.rec_model.specs.declared.command.Cmd.{Cmd}
use Rattle.rec_script.specs.Script.{ScriptContents, IsScript, most_mutators}
use Rattle.rec_script.proofs.Mutators.{last_emptied, one_mutator_more}
use Rattle.rec_script.proofs.script.Script.add_mutator.Goals as goal

pub invariant_of-self : goal.invariant_of-self
invariant_of-self c =
    let none : c.replace-full.new.dest.items ≡ [] = ap (λ v. v.items) c.replace-full.ensures.after ∙ c.new.ensures.items in
    subst (λ (earlier : List (List Cmd)). IsScript (record { version = c.self.inside.version; slots = c.self.inside.slots; fields = c.self.inside.fields; registers = c.self.inside.registers; commands = earlier ++ c.replace-full.new.dest.items ∷ [] })) (sym (ap (map (λ v. v.items)) c.in_err-push.ensures.items))
    (last_emptied c.self.inside.version c.self.inside.slots c.self.inside.fields c.self.inside.registers (map (λ v. v.items) c.self.inside.earlier.items) c.self.inside.last.items c.replace-full.new.dest.items c.self.invariant none)

pub returns-in_err-push-clause-valid : goal.returns-in_err-push-clause-valid
returns-in_err-push-clause-valid c = invariant_of-self c

pub invariant_of-self-2 : goal.invariant_of-self-2
invariant_of-self-2 c =
    let none : c.replace-full.new.dest.items ≡ [] = ap (λ v. v.items) c.replace-full.ensures.after ∙ c.new.ensures.items in
    let room = subst (λ (v : ScriptContents). length v.commands < most_mutators v.version) (sym c.self.view_is) c.requires in
    let grown : map (λ v. v.items) c.push.new.self.items ≡ map (λ v. v.items) c.self.inside.earlier.items ++ c.self.inside.last.items ∷ [] =
    ap (map (λ v. v.items)) c.in_ok-push.ensures.items
    ∙ map-append (λ v. v.items) c.self.inside.earlier.items (c.replace-full.result ∷ [])
    ∙ ap (λ v. map (λ v. v.items) c.self.inside.earlier.items ++ v.items ∷ []) c.replace-full.ensures.value in
    one_mutator_more c.self.inside.version c.self.inside.slots c.self.inside.fields c.self.inside.registers (map (λ v. v.items) c.self.inside.earlier.items) (map (λ v. v.items) c.push.new.self.items) c.self.inside.last.items c.replace-full.new.dest.items c.self.invariant room grown none

pub returns-clause-valid : goal.returns-clause-valid
returns-clause-valid c = invariant_of-self-2 c
