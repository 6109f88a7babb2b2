-- The contract of `Actor::work`: begins a work, makes its first step and goes on to the end.
use Rattle.std.proofs.Common.{◌≡◌, ◌∙◌, refl, ap, subst}
use Rattle.std.proofs.Common.{Some}
use Rattle.rec_table.proofs.Common.{Private, Works, MutatorView, mutator_now}
use Rattle.rec_mutator.specs.declared.made.Made.{Made}
use Rattle.rec_mutator.specs.declared.work.Work.{Work}
use Rattle.rec_mutator.specs.declared.work.Work.TheVariants as works
use Rattle.rec_table.specs.declared.start.Start.{Start}
use Rattle.rec_table.proofs.Answering.{Path, answered, begun_slots, path_first, polled}
use Rattle.rec_table.proofs.Leaving.{leaves, poll_stays}
use Rattle.rec_table.proofs.Lines.{tells}
use Rattle.rec_table.proofs.Making.{begun_work, keeps_on, works_first}
use Rattle.rec_table.proofs.Straight.{answered_idle}
use Rattle.rec_table.proofs.actor.Actor.work.Goals as goal
use Rattle.rec_table.proofs.actor.Actor.work.Goals.{After-step}
use Rattle.rec_mutator.proofs.Straight.{begun_busy}

abbrev start_of : (c : After-step) → Start
start_of c = record { work = c.args.work; from = c.next_scan-from.result }

-- the work has made its first step
first : (c : After-step) → Path (start_of c) (mutator_now c.args.self.now) c.args.self.now.log c.step.new.self.log (mutator_now c.step.new.self)
first c =
    let p : Private = mutator_now c.args.self.now in
    path_first (start_of c) p (mutator_now c.step.new.self) c.args.self.now.log c.step.new.self.log c.step.result (ap (λ (h : MutatorView). h.log) c.step.ensures.grows)
    c.step.ensures.machine (begun_busy p c.args.work c.next_scan-from.result) (begun_work p c.args.work c.next_scan-from.result) (begun_slots p c.args.work c.next_scan-from.result)
    c.step.ensures.learns
    c.step.ensures.steps

work_grows : (c : After-step) → Works c.args.work c.args.self.now.log c.step.new.self.log × (c.step.new.self ≡ record c.args.self.now { log = c.step.new.self.log })
work_grows c = works_first c.args.self.now c.step.new.self c.args.work c.next_scan-from.result c.step.result c.step.ensures.grows

pub step-requires-clause-may : goal.step-requires-clause-may
step-requires-clause-may c =
    let p : Private = mutator_now c.args.self.now in
    (c.requires.may.0, c.requires.may.1, c.requires.may.2, c.requires.may.3, c.next_scan-from.ensures.from)

pub go_on-requires-clause-work : goal.go_on-requires-clause-work
go_on-requires-clause-work c =
    let a : After-step = (goal.at.go_on-requires-clause-work c).After-step in
    let p : Private = mutator_now c.args.self.now in
    c.step.ensures.work ∙ begun_work p c.args.work c.next_scan-from.result

pub go_on-requires-clause-told : goal.go_on-requires-clause-told
go_on-requires-clause-told c = c.step.ensures.told

pub returns-clause-grows : goal.returns-clause-grows
returns-clause-grows c =
    let a : After-step = (goal.at.returns-clause-grows c).After-step in
    (c.go_on.ensures.grows c.args.self.now.log (work_grows a).0, c.go_on.ensures.is ∙ (λ k. record ((work_grows a).1 k) { log = c.go_on.new.self.log }))

pub returns-clause-line : goal.returns-clause-line
returns-clause-line c =
    let a : After-step = (goal.at.returns-clause-line c).After-step in
    let p : Private = mutator_now c.args.self.now in
    tells p (mutator_now c.go_on.new.self) (start_of a) c.args.self.now.log c.go_on.new.self.log c.go_on.result (c.go_on.ensures.path (start_of a) p c.args.self.now.log refl (first a)) c.go_on.ensures.answer

pub returns-clause-ended : goal.returns-clause-ended
returns-clause-ended c = record {
  answer = c.go_on.ensures.answer;
  idle = answered_idle (mutator_now c.go_on.new.self) c.go_on.result c.go_on.ensures.answer;
  work = c.go_on.ensures.work;
  told = c.go_on.ensures.told;
}

pub returns-clause-same : goal.returns-clause-same
returns-clause-same c = keeps_on (mutator_now c.args.self.now) (mutator_now c.step.new.self) (mutator_now c.go_on.new.self) c.step.ensures.same c.go_on.ensures.same

pub returns-clause-causes : goal.returns-clause-causes
returns-clause-causes c = λ cmd told is made.
    let a : After-step = (goal.at.returns-clause-causes c).After-step in
    let p : Private = mutator_now c.args.self.now in
    answered p (mutator_now c.go_on.new.self) cmd c.next_scan-from.result c.args.self.now.log c.go_on.new.self.log told
    (subst (λ (work : Work). Path (record { work = work; from = c.next_scan-from.result }) p c.args.self.now.log c.go_on.new.self.log (mutator_now c.go_on.new.self)) is (c.go_on.ensures.path (start_of a) p c.args.self.now.log refl (first a)))
    (c.go_on.ensures.answer ∙ ap (λ (m : Made). Some m) made)

pub returns-clause-leaves : goal.returns-clause-leaves
returns-clause-leaves c = λ cmd told is made.
    let a : After-step = (goal.at.returns-clause-leaves c).After-step in
    let p : Private = mutator_now c.args.self.now in
    leaves p (mutator_now c.go_on.new.self) cmd c.next_scan-from.result c.args.self.now.log c.go_on.new.self.log told c.requires.may.1
    (subst (λ (work : Work). Path (record { work = work; from = c.next_scan-from.result }) p c.args.self.now.log c.go_on.new.self.log (mutator_now c.go_on.new.self)) is (c.go_on.ensures.path (start_of a) p c.args.self.now.log refl (first a)))
    (c.go_on.ensures.answer ∙ ap (λ (m : Made). Some m) made)

pub returns-clause-stays : goal.returns-clause-stays
returns-clause-stays c = λ is.
    let a : After-step = (goal.at.returns-clause-stays c).After-step in
    let p : Private = mutator_now c.args.self.now in
    poll_stays p (mutator_now c.go_on.new.self) c.next_scan-from.result c.args.self.now.log c.go_on.new.self.log
    (subst (λ (work : Work). Path (record { work = work; from = c.next_scan-from.result }) p c.args.self.now.log c.go_on.new.self.log (mutator_now c.go_on.new.self)) is (c.go_on.ensures.path (start_of a) p c.args.self.now.log refl (first a)))

pub returns-clause-polled : goal.returns-clause-polled
returns-clause-polled c = λ epoch is made.
    let a : After-step = (goal.at.returns-clause-polled c).After-step in
    let p : Private = mutator_now c.args.self.now in
    polled p (mutator_now c.go_on.new.self) c.next_scan-from.result c.args.self.now.log c.go_on.new.self.log epoch
    (subst (λ (work : Work). Path (record { work = work; from = c.next_scan-from.result }) p c.args.self.now.log c.go_on.new.self.log (mutator_now c.go_on.new.self)) is (c.go_on.ensures.path (start_of a) p c.args.self.now.log refl (first a)))
    (begun_busy p works.Poll c.next_scan-from.result) (c.go_on.ensures.answer ∙ ap (λ (m : Made). Some m) made)
