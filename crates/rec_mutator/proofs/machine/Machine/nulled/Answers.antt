-- The contract of `Machine::nulled`: what is learnt as a register becomes null.
use Rattle.std.proofs.Common.{Some, sym, ap, subst, ◌∙◌}
use Rattle.rec_mutator.specs.Inside.{private}
use Rattle.rec_mutator.specs.Private.{Private, HasOperands, IsMachine, answer_at}
use Rattle.rec_mutator.specs.Took.{begun_of, took_of}
use Rattle.rec_mutator.specs.declared.work.Work.TheVariants as works
use Rattle.rec_model.specs.declared.command.Cmd.TheVariants as commands
use Rattle.rec_model.specs.declared.told.Told.{Told}
use Rattle.rec_mutator.specs.declared.made.Made.TheVariants as makes
use Rattle.rec_mutator.proofs.Straight.{begun_machine, nulled_is, nulled_machine}
use Rattle.rec_mutator.proofs.machine.Machine.nulled.Goals as goal

pub returns-clause-took : goal.returns-clause-took
returns-clause-took c =
    let p : Private = private c.self.inside in
    nulled_is p c.args.reg c.args.word c.clear.ensures c.only.ensures c.answered-self-inside.ensures
    ∙ ap (λ (p : Private). took_of (begun_of p (works.Command (commands.Null c.args.reg)) p.from) c.args.word) c.self.view_is

pub returns-clause-answer : goal.returns-clause-answer
returns-clause-answer c = ap answer_at c.answered-self-inside.ensures ∙ ap (λ (told : Told). Some (makes.Answered told)) c.only.ensures

pub invariant_of-self : goal.invariant_of-self
invariant_of-self c =
    let p : Private = private c.self.inside in
    subst IsMachine (sym (nulled_is p c.args.reg c.args.word c.clear.ensures c.only.ensures c.answered-self-inside.ensures))
    (nulled_machine p c.args.reg c.args.word
    (begun_machine p (works.Command (commands.Null c.args.reg)) p.from c.self.invariant (subst (λ (q : Private). HasOperands q (commands.Null c.args.reg)) (sym c.self.view_is) c.requires.valid) (ap (λ (q : Private). q.left) c.self.view_is ∙ c.requires.stays) c.self.invariant.from))

pub returns-clause-kept : goal.returns-clause-kept
returns-clause-kept c = invariant_of-self c
