-- The contract of `Machine::got`: what is learnt of a read.
use Rattle.std.proofs.Common.{◌≡◌, Some, sym, ap, subst, ◌∙◌}
use Rattle.rec_mutator.specs.Inside.{private}
use Rattle.rec_mutator.specs.Private.{Private, HasOperands, IsMachine, answer_at, register}
use Rattle.rec_mutator.specs.Took.{begun_of, took_of}
use Rattle.rec_mutator.specs.declared.work.Work.TheVariants as works
use Rattle.rec_model.specs.declared.answer.Answer.{Answer}
use Rattle.rec_model.specs.declared.command.Cmd.TheVariants as commands
use Rattle.rec_mutator.specs.declared.made.Made.TheVariants as makes
use Rattle.rec_mutator.specs.declared.phase.Phase.TheVariants.{Finished}
use Rattle.rec_mutator.proofs.Straight.{begun_machine, got_is, got_machine}
use Rattle.rec_mutator.proofs.machine.Machine.got.Goals as goal

pub returns-clause-took : goal.returns-clause-took
returns-clause-took c =
    let p : Private = private c.self.inside in
    let object : register p c.args.src ≡ Some c.args.slot = ap (λ (q : Private). register q c.args.src) c.self.view_is ∙ c.requires.object in
    let ends = c.answered-self-inside.ensures ∙ ap (λ (answer : Answer). Finished (works.Command (commands.Get c.args.dst c.args.src c.args.field)) (makes.Answered (record { answer = answer; saw = c.args.word; left = 0 }))) c.null_or_object-answer.ensures in
    got_is p c.args.dst c.args.src c.args.field c.args.slot c.args.word object c.target-target.ensures.target c.put_in.ensures ends
    ∙ ap (λ (p : Private). took_of (begun_of p (works.Command (commands.Get c.args.dst c.args.src c.args.field)) p.from) c.args.word) c.self.view_is

pub returns-clause-answer : goal.returns-clause-answer
returns-clause-answer c = ap answer_at c.answered-self-inside.ensures

pub invariant_of-self : goal.invariant_of-self
invariant_of-self c =
    let p : Private = private c.self.inside in
    let object : register p c.args.src ≡ Some c.args.slot = ap (λ (q : Private). register q c.args.src) c.self.view_is ∙ c.requires.object in
    let ends = c.answered-self-inside.ensures ∙ ap (λ (answer : Answer). Finished (works.Command (commands.Get c.args.dst c.args.src c.args.field)) (makes.Answered (record { answer = answer; saw = c.args.word; left = 0 }))) c.null_or_object-answer.ensures in
    subst IsMachine (sym (got_is p c.args.dst c.args.src c.args.field c.args.slot c.args.word object c.target-target.ensures.target c.put_in.ensures ends))
    (got_machine p c.args.dst c.args.src c.args.field c.args.slot c.args.word
    (begun_machine p (works.Command (commands.Get c.args.dst c.args.src c.args.field)) p.from c.self.invariant (subst (λ (q : Private). HasOperands q (commands.Get c.args.dst c.args.src c.args.field)) (sym c.self.view_is) c.requires.valid) (ap (λ (q : Private). q.left) c.self.view_is ∙ c.requires.stays) c.self.invariant.from) object)

pub returns-clause-kept : goal.returns-clause-kept
returns-clause-kept c = invariant_of-self c
