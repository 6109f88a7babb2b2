-- The contract of `Machine::took_put`: the header of the object tells whether its field may be written.
use Rattle.std.proofs.Common.{◌≡◌, false, length, refl, arith, ap, sym, subst, ◌∙◌}
use Rattle.std.proofs.lemmas.Bool.{eq-eqb, false≢true}
use Rattle.rec_model.specs.declared.command.Cmd.TheVariants as commands
use Rattle.rec_mutator.specs.Inside.{private}
use Rattle.rec_mutator.specs.Private.{Private, is_full, HasOperands, HasStamp, IsMachine}
use Rattle.rec_mutator.specs.Took.{moved}
use Rattle.rec_mutator.specs.declared.machine.Machine.TheInside.{Inside}
use Rattle.rec_mutator.proofs.Machines.{answered_machine, first_step, has_room, moved_machine}
use Rattle.rec_mutator.proofs.machine.Machine.took_put.Goals as goal
use Rattle.rec_mutator.proofs.machine.Machine.took_put.Goals.{then-unpack, else-unpack}

pub invariant_of-self : goal.invariant_of-self
invariant_of-self c =
    let first : c.self.inside.steps ≡ 0 = ap (λ (p : Private). p.steps) c.self.view_is ∙ c.requires.first in
    answered_machine c.self.invariant c.self.invariant.registers c.self.invariant.entries refl
    (first_step (private c.self.inside) (commands.Put c.args.src c.args.field c.args.val) first) c.answered-self-inside.ensures

pub returns-in_default-clause-kept : goal.returns-in_default-clause-kept
returns-in_default-clause-kept c = invariant_of-self c

pub invariant_of-self-then-is_full : goal.invariant_of-self-then-is_full
invariant_of-self-then-is_full c =
    let first : c.self.inside.steps ≡ 0 = ap (λ (p : Private). p.steps) c.self.view_is ∙ c.requires.first in
    answered_machine c.self.invariant c.self.invariant.registers c.self.invariant.entries refl
    (first_step (private c.self.inside) (commands.Put c.args.src c.args.field c.args.val) first) c.answered-self-inside-then-is_full.ensures

pub returns-then-is_full-clause-kept : goal.returns-then-is_full-clause-kept
returns-then-is_full-clause-kept c = invariant_of-self-then-is_full c

pub invariant_of-self-2 : goal.invariant_of-self-2
invariant_of-self-2 c =
    let p : Private = private c.self.inside in
    let first : p.steps ≡ 0 = ap (λ (q : Private). q.steps) c.self.view_is ∙ c.requires.first in
    let stamp : HasStamp p = subst HasStamp (sym c.self.view_is) c.requires.stamp in
    let operands : HasOperands p (commands.Put c.args.src c.args.field c.args.val) = subst (λ (q : Private). HasOperands q (commands.Put c.args.src c.args.field c.args.val)) (sym c.self.view_is) c.requires.valid in
    let room : is_full p ≡ false = ap is_full c.self.view_is ∙ sym c.is_full.ensures ∙ c.if-is_full.false in
    elim c.if-unpack.branch [
      | then-unpack w ↦ subst (λ (inside : Inside). IsMachine (moved (private inside) inside.phase)) (sym w.self-inside-is)
          (answered_machine c.self.invariant c.self.invariant.registers c.self.invariant.entries refl (first_step p (commands.Put c.args.src c.args.field c.args.val) first) w.answered-self-inside-then-unpack.ensures)
      | else-unpack w ↦ subst (λ (inside : Inside). IsMachine (moved (private inside) inside.phase)) (sym w.self-inside-is)
          (moved_machine {p = p} c.self.invariant (record { operands = operands; source = sym c.read.ensures ∙ c.in-Some.is; room = has_room p c.self.invariant (λ full. false≢true (sym room ∙ eq-eqb (length p.log.entries) p.log.capacity full)); stamp = stamp }, omega (arith, first)))
    ]

pub returns-clause-kept : goal.returns-clause-kept
returns-clause-kept c = invariant_of-self-2 c
