-- The contract of `Machine::took_copy`: a register becomes what another one is.
use Rattle.std.proofs.Common.{◌≡◌, ap, length, sym, subst, ◌∙◌}
use Rattle.std.specs.List.{All}
use Rattle.std.proofs.lemmas.List.{length-set}
use Rattle.std.proofs.lemmas.List.Elements.{All-set}
use Rattle.rec_word.specs.Word.{IsTarget}
use Rattle.rec_model.specs.declared.command.Cmd.TheVariants.{Copy}
use Rattle.rec_mutator.specs.Inside.{private}
use Rattle.rec_mutator.specs.Private.{Private, register}
use Rattle.rec_mutator.proofs.Machines.{answered_machine, first_step, register_target}
use Rattle.rec_mutator.proofs.machine.Machine.took_copy.Goals as goal

pub invariant_of-self : goal.invariant_of-self
invariant_of-self c =
    let p : Private = private c.self.inside in
    let targets = All-set IsTarget p.registers c.args.dst (register p c.args.src) (register_target p c.args.src c.self.invariant) c.self.invariant.registers in
    let first : p.steps ≡ 0 = ap (λ (q : Private). q.steps) c.self.view_is ∙ c.requires.first in
    answered_machine c.self.invariant (subst (λ registers. All IsTarget registers) (sym c.copy.ensures) targets) c.self.invariant.entries
    (ap length c.copy.ensures ∙ length-set p.registers c.args.dst (register p c.args.src))
    (first_step p (Copy c.args.dst c.args.src) first)
    c.answered-self-inside.ensures

pub returns-clause-kept : goal.returns-clause-kept
returns-clause-kept c = invariant_of-self c
