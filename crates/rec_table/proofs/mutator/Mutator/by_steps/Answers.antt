-- The contract of `Mutator::by_steps`: carries out a command step by step, and tells the answer.
use Rattle.std.proofs.Common.{Some, [], ◌∷◌, refl, sym, ◌∙◌, subst}
use Rattle.rec_mutator.specs.declared.work.Work.TheVariants as works
use Rattle.rec_table.proofs.Common.{KeepsSizes, IsMutatorOf, IsWorld, MutatorView, Started, Works, mutator_now, started}
use Rattle.rec_table.specs.Answered.{IsAnswered, Leaves}
use Rattle.rec_table.specs.Journals.{Tells}
use Rattle.rec_table.specs.Rule.{MayAsk}
use Rattle.rec_table.proofs.mutator.Mutator.by_steps.Goals as goal

pub work-requires-clause-own : goal.work-requires-clause-own
work-requires-clause-own c = subst (λ (s : Started × MutatorView). IsMutatorOf s.0 s.1) (λ i. (started (sym c.board.ensures.table i) (sym c.board.ensures.world i), sym c.self.view_is i)) c.requires.own

pub work-requires-clause-world : goal.work-requires-clause-world
work-requires-clause-world c = subst IsWorld (sym c.board.ensures.world) c.board.ensures.kept

pub work-requires-clause-may : goal.work-requires-clause-may
work-requires-clause-may c =
    let valid : MayAsk (mutator_now c.self.inside.actor) c.args.cmd = subst (λ (m : MutatorView). MayAsk (mutator_now m) c.args.cmd) (sym c.self.view_is) c.requires.valid in
    (c.self.invariant, valid.1, valid.0, c.see_label.ensures)

pub invariant_of-self : goal.invariant_of-self
invariant_of-self c = c.work.ensures.ended.idle

pub returns-clause-grows : goal.returns-clause-grows
returns-clause-grows c = subst (λ (m : MutatorView). Works (works.Command c.args.cmd) m.log c.work.new.self.log) c.self.view_is c.work.ensures.grows.0

pub returns-clause-is : goal.returns-clause-is
returns-clause-is c = c.work.ensures.grows.1 ∙ (λ i. record (c.self.view_is i) { log = c.work.new.self.log })

pub returns-clause-answer : goal.returns-clause-answer
returns-clause-answer c = c.work.ensures.ended.answer ∙ (λ i. Some (c.in-Answered.is i))

pub returns-clause-causes : goal.returns-clause-causes
returns-clause-causes c =
    subst (λ (m : MutatorView). IsAnswered (mutator_now m) c.args.cmd m.log c.work.new.self.log (mutator_now c.work.new.self) c.in-Answered.told) c.self.view_is
    (c.work.ensures.causes c.args.cmd c.in-Answered.told refl c.in-Answered.is)

pub returns-clause-leaves : goal.returns-clause-leaves
returns-clause-leaves c =
    subst (λ (m : MutatorView). Leaves (mutator_now m) c.args.cmd c.in-Answered.told (mutator_now c.work.new.self)) c.self.view_is
    (c.work.ensures.leaves c.args.cmd c.in-Answered.told refl c.in-Answered.is)

pub returns-clause-line : goal.returns-clause-line
returns-clause-line c = subst (λ (m : MutatorView). Tells (mutator_now m) m.log c.work.new.self.log ((c.args.cmd, c.in-Answered.told) ∷ [])) c.self.view_is c.in-Answered.ensures.line

pub returns-clause-idle : goal.returns-clause-idle
returns-clause-idle c = c.work.ensures.ended.idle

pub returns-clause-same : goal.returns-clause-same
returns-clause-same c = subst (λ (m : MutatorView). KeepsSizes (mutator_now m) (mutator_now c.work.new.self)) c.self.view_is c.work.ensures.same
