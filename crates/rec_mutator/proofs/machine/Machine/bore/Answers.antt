-- The contract of `Machine::bore`: what is learnt of a birth.
use Rattle.std.proofs.Common.{◌≡◌, ◌<◌, false, Some, sym, ap, subst, ◌∙◌}
use Rattle.rec_mutator.specs.Inside.{private}
use Rattle.rec_mutator.specs.Private.{Private, HasOperands, IsMachine, answer_at, is_full}
use Rattle.rec_mutator.specs.Took.{begun_of, took_of}
use Rattle.rec_mutator.specs.declared.work.Work.TheVariants as works
use Rattle.rec_model.specs.Asking.{allocation}
use Rattle.rec_model.specs.declared.command.Cmd.{Cmd}
use Rattle.rec_mutator.specs.declared.made.Made.TheVariants as makes
use Rattle.rec_mutator.specs.declared.phase.Phase.TheVariants.{Finished}
use Rattle.rec_model.specs.declared.told.Told.{Told}
use Rattle.rec_mutator.proofs.Straight.{begun_machine, bore_is, bore_machine}
use Rattle.rec_mutator.proofs.machine.Machine.bore.Goals as goal

pub returns-clause-took : goal.returns-clause-took
returns-clause-took c =
    let p : Private = private c.self.inside in
    let room : is_full p ≡ false = ap is_full c.self.view_is ∙ c.requires.room in
    let there = subst (λ (q : Private). c.args.from < q.slots) (sym c.self.view_is) c.requires.from in
    let ends = c.answered-self-inside.ensures ∙ ap (λ (cmd : Cmd). Finished (works.Command cmd) (makes.Answered c.only.result)) c.allocation.ensures in
    bore_is p c.args.reg c.args.label c.args.leaf c.args.from c.args.before room there c.set.ensures c.note.ensures c.only.ensures ends
    ∙ ap (λ (p : Private). took_of (took_of (begun_of p (works.Command (allocation c.args.leaf c.args.reg c.args.label)) c.args.from) c.args.before) 0) c.self.view_is

pub returns-clause-answer : goal.returns-clause-answer
returns-clause-answer c = ap answer_at c.answered-self-inside.ensures ∙ ap (λ (told : Told). Some (makes.Answered told)) c.only.ensures

pub invariant_of-self : goal.invariant_of-self
invariant_of-self c =
    let p : Private = private c.self.inside in
    let room : is_full p ≡ false = ap is_full c.self.view_is ∙ c.requires.room in
    let there = subst (λ (q : Private). c.args.from < q.slots) (sym c.self.view_is) c.requires.from in
    let ends = c.answered-self-inside.ensures ∙ ap (λ (cmd : Cmd). Finished (works.Command cmd) (makes.Answered c.only.result)) c.allocation.ensures in
    subst IsMachine (sym (bore_is p c.args.reg c.args.label c.args.leaf c.args.from c.args.before room there c.set.ensures c.note.ensures c.only.ensures ends))
    (bore_machine p c.args.reg c.args.label c.args.leaf c.args.from c.args.before
    (begun_machine p (works.Command (allocation c.args.leaf c.args.reg c.args.label)) c.args.from c.self.invariant (subst (λ (q : Private). HasOperands q (allocation c.args.leaf c.args.reg c.args.label)) (sym c.self.view_is) c.requires.valid) (ap (λ (q : Private). q.left) c.self.view_is ∙ c.requires.stays) there) room)

pub returns-clause-kept : goal.returns-clause-kept
returns-clause-kept c = invariant_of-self c
