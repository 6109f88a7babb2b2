-- The contract of `Machine::took_get`: a register becomes what the field's word leads to.
use Rattle.std.proofs.Common.{◌≡◌, length, refl, ap, sym, subst, ◌∙◌}
use Rattle.std.specs.List.{All}
use Rattle.std.proofs.lemmas.List.{length-set}
use Rattle.std.proofs.lemmas.List.Elements.{All-set}
use Rattle.rec_word.specs.Word.{IsTarget}
use Rattle.rec_model.specs.declared.command.Cmd.TheVariants as commands
use Rattle.rec_mutator.specs.Inside.{private}
use Rattle.rec_mutator.specs.Private.{Private}
use Rattle.rec_mutator.proofs.Machines.{answered_machine, first_step}
use Rattle.rec_mutator.proofs.machine.Machine.took_get.Goals as goal

pub invariant_of-self : goal.invariant_of-self
invariant_of-self c =
    let first : c.self.inside.steps ≡ 0 = ap (λ (p : Private). p.steps) c.self.view_is ∙ c.requires.first in
    answered_machine c.self.invariant c.self.invariant.registers c.self.invariant.entries refl
    (first_step (private c.self.inside) (commands.Get c.args.dst c.args.src c.args.field) first) c.answered-self-inside.ensures

pub returns-then-is_none-clause-kept : goal.returns-then-is_none-clause-kept
returns-then-is_none-clause-kept c = invariant_of-self c

pub invariant_of-self-2 : goal.invariant_of-self-2
invariant_of-self-2 c =
    let first : c.self.inside.steps ≡ 0 = ap (λ (p : Private). p.steps) c.self.view_is ∙ c.requires.first in
    let target : IsTarget c.target-target.result = c.target-target.ensures.in_range in
    answered_machine c.self.invariant
    (subst (λ registers. All IsTarget registers) (sym c.put_in.ensures) (All-set IsTarget c.self.inside.frame c.args.dst c.target-target.result target c.self.invariant.registers))
    c.self.invariant.entries
    (ap length c.put_in.ensures ∙ length-set c.self.inside.frame c.args.dst c.target-target.result)
    (first_step (private c.self.inside) (commands.Get c.args.dst c.args.src c.args.field) first) c.answered-self-inside-2.ensures

pub returns-clause-kept : goal.returns-clause-kept
returns-clause-kept c = invariant_of-self-2 c
