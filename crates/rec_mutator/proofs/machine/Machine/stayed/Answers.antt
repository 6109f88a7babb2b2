-- The contract of `Machine::stayed`: what is learnt of a poll that crosses nowhere.
use Rattle.std.proofs.Common.{sym, ap, subst, ◌∙◌}
use Rattle.rec_mutator.specs.Inside.{private}
use Rattle.rec_mutator.specs.Private.{Private, IsMachine, answer_at}
use Rattle.rec_mutator.specs.Took.{begun_of, took_of}
use Rattle.rec_mutator.specs.declared.work.Work.TheVariants as works
use Rattle.rec_mutator.proofs.Straight.{begun_machine, stayed_is, stayed_machine}
use Rattle.rec_mutator.proofs.machine.Machine.stayed.Goals as goal

pub returns-clause-took : goal.returns-clause-took
returns-clause-took c =
    let p : Private = private c.self.inside in
    let own = c.requires.own ∙ ap (λ (q : Private). q.epoch) (sym c.self.view_is) in
    stayed_is p c.args.requested own c.crossed-self-inside.ensures
    ∙ ap (λ (p : Private). took_of (begun_of p (works.Poll) p.from) c.args.requested) c.self.view_is

pub returns-clause-answer : goal.returns-clause-answer
returns-clause-answer c = ap answer_at c.crossed-self-inside.ensures

pub invariant_of-self : goal.invariant_of-self
invariant_of-self c =
    let p : Private = private c.self.inside in
    let own = c.requires.own ∙ ap (λ (q : Private). q.epoch) (sym c.self.view_is) in
    subst IsMachine (sym (stayed_is p c.args.requested own c.crossed-self-inside.ensures))
    (stayed_machine p c.args.requested
    (begun_machine p (works.Poll) p.from c.self.invariant tt (ap (λ (q : Private). q.left) c.self.view_is ∙ c.requires.stays) c.self.invariant.from) own)

pub returns-clause-kept : goal.returns-clause-kept
returns-clause-kept c = invariant_of-self c
