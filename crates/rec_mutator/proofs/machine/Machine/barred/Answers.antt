-- The contract of `Machine::barred`: what is learnt of a leaf.
use Rattle.std.proofs.Common.{◌≡◌, false, Some, sym, ap, subst, ◌∙◌}
use Rattle.rec_mutator.specs.Inside.{private}
use Rattle.rec_mutator.specs.Private.{Private, HasOperands, IsMachine, answer_at, is_full, register}
use Rattle.rec_mutator.specs.Took.{begun_of, took_of}
use Rattle.rec_mutator.specs.declared.work.Work.TheVariants as works
use Rattle.rec_model.specs.declared.command.Cmd.TheVariants as commands
use Rattle.rec_model.specs.declared.told.Told.{Told}
use Rattle.rec_mutator.specs.declared.made.Made.TheVariants as makes
use Rattle.rec_mutator.proofs.Straight.{begun_machine, barred_is, barred_machine}
use Rattle.rec_mutator.proofs.machine.Machine.barred.Goals as goal

pub returns-clause-took : goal.returns-clause-took
returns-clause-took c =
    let p : Private = private c.self.inside in
    let object : register p c.args.src ≡ Some c.args.slot = ap (λ (q : Private). register q c.args.src) c.self.view_is ∙ c.requires.object in
    let room : is_full p ≡ false = ap is_full c.self.view_is ∙ c.requires.room in
    barred_is p c.args.src c.args.field c.args.val c.args.slot c.args.header object room c.requires.header.1 c.only.ensures c.answered-self-inside.ensures
    ∙ ap (λ (p : Private). took_of (begun_of p (works.Command (commands.Put c.args.src c.args.field c.args.val)) p.from) c.args.header) c.self.view_is

pub returns-clause-answer : goal.returns-clause-answer
returns-clause-answer c = ap answer_at c.answered-self-inside.ensures ∙ ap (λ (told : Told). Some (makes.Answered told)) c.only.ensures

pub invariant_of-self : goal.invariant_of-self
invariant_of-self c =
    let p : Private = private c.self.inside in
    let object : register p c.args.src ≡ Some c.args.slot = ap (λ (q : Private). register q c.args.src) c.self.view_is ∙ c.requires.object in
    let room : is_full p ≡ false = ap is_full c.self.view_is ∙ c.requires.room in
    subst IsMachine (sym (barred_is p c.args.src c.args.field c.args.val c.args.slot c.args.header object room c.requires.header.1 c.only.ensures c.answered-self-inside.ensures))
    (barred_machine p c.args.src c.args.field c.args.val c.args.slot c.args.header
    (begun_machine p (works.Command (commands.Put c.args.src c.args.field c.args.val)) p.from c.self.invariant (subst (λ (q : Private). HasOperands q (commands.Put c.args.src c.args.field c.args.val)) (sym c.self.view_is) c.requires.valid) (ap (λ (q : Private). q.left) c.self.view_is ∙ c.requires.stays) c.self.invariant.from) object room c.requires.header)

pub returns-clause-kept : goal.returns-clause-kept
returns-clause-kept c = invariant_of-self c
