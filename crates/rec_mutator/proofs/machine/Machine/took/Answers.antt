-- The contract of `Machine::took`: learns the word that the operation of `next` found: the step is made.
use Rattle.std.proofs.Common.{sym, subst, ap, ◌∙◌}
use Rattle.rec_mutator.specs.Causes.{HasCause, PollHasCause}
use Rattle.rec_mutator.specs.Private.{Private, KeepsSizes, answer_of, work_of}
use Rattle.rec_mutator.proofs.Machines.{within_limit}
use Rattle.rec_mutator.proofs.Sizes.{learnt_keeps}
use Rattle.rec_mutator.proofs.Refusals.{took_cause}
use Rattle.rec_mutator.proofs.Polls.{took_polled}
use Rattle.rec_mutator.proofs.machine.Machine.took.Goals as goal

pub returns-clause-cause : goal.returns-clause-cause
returns-clause-cause c = λ cmd told work answer.
    subst (λ (q : Private). HasCause c.args.self.now q cmd c.args.word told.answer) (sym c.learn.ensures.took)
    (took_cause c.args.self.now c.args.word cmd told c.learn.ensures.was c.requires.busy c.requires.between work (ap answer_of (sym c.learn.ensures.took) ∙ answer))

pub returns-clause-polled : goal.returns-clause-polled
returns-clause-polled c = subst (λ (q : Private). PollHasCause c.args.self.now q c.args.word) (sym c.learn.ensures.took) (took_polled c.args.self.now c.args.word c.requires.busy c.requires.between)

pub returns-clause-same : goal.returns-clause-same
returns-clause-same c = subst (KeepsSizes c.args.self.now) (sym c.learn.ensures.took) (learnt_keeps c.args.self.now c.args.word c.requires.busy c.requires.between).0

pub returns-clause-work : goal.returns-clause-work
returns-clause-work c = ap work_of c.learn.ensures.took ∙ (learnt_keeps c.args.self.now c.args.word c.requires.busy c.requires.between).1

pub returns-clause-steps : goal.returns-clause-steps
returns-clause-steps c = ap (λ (p : Private). p.steps) c.learn.ensures.took ∙ (learnt_keeps c.args.self.now c.args.word c.requires.busy c.requires.between).2

pub returns-clause-limit : goal.returns-clause-limit
returns-clause-limit c = within_limit c.learn.new.self c.learn.ensures.kept
