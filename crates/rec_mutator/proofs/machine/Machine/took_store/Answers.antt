-- The contract of `Machine::took_store`: the write is logged with the word that it replaced.
use Rattle.std.proofs.Common.{◌≡◌, refl, arith, ap, sym, subst, ◌∙◌}
use Rattle.rec_log.specs.declared.contents.Contents.{Contents}
use Rattle.rec_mutator.specs.Inside.{private}
use Rattle.rec_mutator.specs.Private.{Private, IsMachine, IsStore}
use Rattle.rec_mutator.specs.Took.{moved}
use Rattle.rec_mutator.proofs.Machines.{answered_machine, one_more}
use Rattle.rec_mutator.proofs.machine.Machine.took_store.Goals as goal

pub invariant_of-self : goal.invariant_of-self
invariant_of-self c =
    let p : Private = private c.self.inside in
    let store : IsStore p c.args.src c.args.field c.args.val c.args.slot = subst (λ (q : Private). IsStore q c.args.src c.args.field c.args.val c.args.slot) (sym c.self.view_is) c.requires.store in
    let steps : p.steps ≡ 1 = ap (λ (q : Private). q.steps) c.self.view_is ∙ c.requires.second in
    subst (λ (log : Contents). IsMachine (moved (record p { log = log }) c.answered-self-inside.result)) (sym c.note.ensures)
    (answered_machine c.self.invariant c.self.invariant.registers (one_more p _ store.room) refl (omega (arith, steps)) c.answered-self-inside.ensures)

pub returns-clause-kept : goal.returns-clause-kept
returns-clause-kept c = invariant_of-self c
