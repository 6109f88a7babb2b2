-- The contract of `Machine::took_first`: learns the word that the first step of this work found.
use Rattle.std.proofs.Common.{◌≡◌, ℕ, true, sym, ap, subst, ◌∙◌}
use Rattle.rec_mutator.specs.Causes.{HasCause, PollHasCause}
use Rattle.rec_mutator.specs.Private.{Private, IsAt, IsMachine, answer_of, is_busy, is_busy_at}
use Rattle.rec_mutator.specs.Took.{IsBetween, begun_by, took_of, took_at}
use Rattle.rec_mutator.specs.declared.phase.Phase.TheVariants.{Begun}
use Rattle.rec_mutator.specs.declared.work.Work.{Work}
use Rattle.rec_mutator.proofs.Polls.{took_polled}
use Rattle.rec_mutator.proofs.Refusals.{took_cause}
use Rattle.rec_mutator.proofs.Sizes.{first_keeps, first_counts}
use Rattle.rec_mutator.proofs.machine.Machine.took_first.Goals as goal

-- what every machine keeps that has begun this work
kept : (p : Private) (work : Work) → IsMachine p → p.phase ≡ Begun work → IsAt p (Begun work)
kept p work is begun = subst (IsAt p) begun is.now

busy : (p : Private) (work : Work) → p.phase ≡ Begun work → is_busy p ≡ true
busy p work begun = ap is_busy_at begun

between : (p : Private) (work : Work) → p.phase ≡ Begun work → IsBetween p.phase
between p work begun = subst IsBetween (sym begun) tt

-- what it learns is what the step finds
learns : (p q : Private) (word : ℕ) (work : Work) → p.phase ≡ Begun work → q ≡ begun_by p word work → q ≡ took_of p word
unfolding took_of took_at
learns p q word work begun is = is ∙ sym (ap (took_at p word) begun)

pub took_begun-requires-clause-valid : goal.took_begun-requires-clause-valid
took_begun-requires-clause-valid c = (kept c.args.self.now c.args.work c.steps-steps.ensures.kept c.requires.begun).0

pub took_begun-requires-clause-first : goal.took_begun-requires-clause-first
took_begun-requires-clause-first c = (kept c.args.self.now c.args.work c.steps-steps.ensures.kept c.requires.begun).1

pub took_begun-requires-clause-stamp : goal.took_begun-requires-clause-stamp
took_begun-requires-clause-stamp c = (kept c.args.self.now c.args.work c.steps-steps.ensures.kept c.requires.begun).2

pub returns-clause-same : goal.returns-clause-same
returns-clause-same c = (first_keeps c.args.self.now c.took_begun.new.self c.args.word c.args.work c.requires.begun c.took_begun.ensures.took).0

pub returns-clause-work : goal.returns-clause-work
returns-clause-work c = (first_keeps c.args.self.now c.took_begun.new.self c.args.word c.args.work c.requires.begun c.took_begun.ensures.took).1

pub returns-clause-steps : goal.returns-clause-steps
returns-clause-steps c = first_counts c.args.self.now c.took_begun.new.self c.args.word c.args.work c.requires.begun c.took_begun.ensures.took

pub returns-clause-cause : goal.returns-clause-cause
returns-clause-cause c = λ cmd told work answer.
    let took = learns c.args.self.now c.took_begun.new.self c.args.word c.args.work c.requires.begun c.took_begun.ensures.took in
    subst (λ (q : Private). HasCause c.args.self.now q cmd c.args.word told.answer) (sym took)
    (took_cause c.args.self.now c.args.word cmd told c.steps-steps.ensures.kept (busy c.args.self.now c.args.work c.requires.begun) (between c.args.self.now c.args.work c.requires.begun) work (ap answer_of (sym took) ∙ answer))

pub returns-clause-polled : goal.returns-clause-polled
returns-clause-polled c =
    subst (λ (q : Private). PollHasCause c.args.self.now q c.args.word) (sym (learns c.args.self.now c.took_begun.new.self c.args.word c.args.work c.requires.begun c.took_begun.ensures.took))
    (took_polled c.args.self.now c.args.word (busy c.args.self.now c.args.work c.requires.begun) (between c.args.self.now c.args.work c.requires.begun))
