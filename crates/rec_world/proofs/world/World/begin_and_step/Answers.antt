-- The machine begins, names an operation, the memory carries it out, the machine learns: the core is that of the definitions.
use Rattle.std.proofs.Common.{refl, false, ◌≡◌, ◌-◌, ◌+◌, ◌<◌, ◌≤◌, ◌^◌, map, length, slice_set, arith, sym, ap, subst, ◌∙◌}
use Rattle.std.specs.Option.{is_some}
use Rattle.rec_world.proofs.Common.{next_of, Private, answer_of, IsValid, cell, births_of, Core, cells_of, mutator, Move, begun, stepped, core, held, IsWorld}
use Rattle.rec_core.proofs.Steps.{actor_of}
use Rattle.rec_world.proofs.Calls.{mutator_read, home_again, machine_left, moved_world, made_small, births_few}
use Rattle.rec_word.specs.declared.op.Op.{Op}
use Rattle.rec_world.proofs.Beginnings.{MayBegin, may_begin, began_read, first_step_is}
use Rattle.rec_world.proofs.OneStep.{makes_step}
use Rattle.rec_world.proofs.world.World.begin_and_step.Goals as goal
use Rattle.rec_world.proofs.world.World.begin_and_step.Goals.{After-index_mut-machine, After-begin, After-answer}

begins : (c : After-begin) → MayBegin c.self.inside c.args.t c.args.work
begins c = may_begin c.self.inside c.args.self.now c.args.t c.args.work c.self.invariant c.self.view_is c.requires.mutator c.requires.present c.requires.work c.requires.idle c.see_label.ensures

-- the machine that was asked
asked : (c : After-begin) → c.begin.new.self ≡ mutator (begun (core c.self.inside) c.args.t c.args.work) c.args.t
asked c = began_read c.self.inside c.args.t c.from-own.result c.args.work c.index_mut-machine.result.now c.begin.new.self c.self.invariant (begins c) c.from-own.ensures c.index_mut-machine.ensures.value c.begin.ensures.begun

pub begin-requires-clause-valid : goal.begin-requires-clause-valid
begin-requires-clause-valid c =
    let may : MayBegin c.self.inside c.args.t c.args.work = may_begin c.self.inside c.args.self.now c.args.t c.args.work c.self.invariant c.self.view_is c.requires.mutator c.requires.present c.requires.work c.requires.idle c.see_label.ensures in
    subst (λ (p : Private). IsValid p c.args.work) (sym (mutator_read (core c.self.inside) c.args.t c.from-own.result c.index_mut-machine.result.now c.self.invariant.world.shaped may.was.is c.from-own.ensures c.index_mut-machine.ensures.value)) may.fits.3

pub begin-requires-clause-from : goal.begin-requires-clause-from
begin-requires-clause-from c =
    let may : MayBegin c.self.inside c.args.t c.args.work = may_begin c.self.inside c.args.self.now c.args.t c.args.work c.self.invariant c.self.view_is c.requires.mutator c.requires.present c.requires.work c.requires.idle c.see_label.ensures in
    subst (λ (p : Private). 0 < p.slots) (sym (mutator_read (core c.self.inside) c.args.t c.from-own.result c.index_mut-machine.result.now c.self.invariant.world.shaped may.was.is c.from-own.ensures c.index_mut-machine.ensures.value))
    (actor_of (core c.self.inside) c.args.t may.was.kept may.was.is).own.machine.first_slot

pub begin-requires-clause-awake : goal.begin-requires-clause-awake
begin-requires-clause-awake c =
    let may : MayBegin c.self.inside c.args.t c.args.work = may_begin c.self.inside c.args.self.now c.args.t c.args.work c.self.invariant c.self.view_is c.requires.mutator c.requires.present c.requires.work c.requires.idle c.see_label.ensures in
    subst (λ (p : Private). p.parked ≡ false) (sym (mutator_read (core c.self.inside) c.args.t c.from-own.result c.index_mut-machine.result.now c.self.invariant.world.shaped may.was.is c.from-own.ensures c.index_mut-machine.ensures.value))
    (actor_of (core c.self.inside) c.args.t may.was.kept may.was.is).own.awake

pub begin-requires-clause-stays : goal.begin-requires-clause-stays
begin-requires-clause-stays c =
    let may : MayBegin c.self.inside c.args.t c.args.work = may_begin c.self.inside c.args.self.now c.args.t c.args.work c.self.invariant c.self.view_is c.requires.mutator c.requires.present c.requires.work c.requires.idle c.see_label.ensures in
    subst (λ (p : Private). p.left ≡ false) (sym (mutator_read (core c.self.inside) c.args.t c.from-own.result c.index_mut-machine.result.now c.self.invariant.world.shaped may.was.is c.from-own.ensures c.index_mut-machine.ensures.value))
    may.fits.2

pub index_mut-requires : goal.index_mut-requires
index_mut-requires c =
    let there : c.args.t - 1 < length c.self.inside.boxes.items = (begins (goal.at.index_mut-requires c).After-begin).was.boxed in
    omega (arith, there, c.from-own.ensures)

pub make_step-requires : goal.make_step-requires
make_step-requires c =
    let here : After-begin = (goal.at.make_step-requires c).After-begin in
    makes_step (begun (core c.self.inside) c.args.t c.args.work) c.args.t c.from-own.result c.self.inside.boxes.items c.begin.new.self c.index_mut.result.now (begins here).may (begins here).busy
    (asked here) refl (begins here).was.boxed c.from-own.ensures c.self.invariant.home c.index_mut.ensures.value

pub overflow_add-self : goal.overflow_add-self
overflow_add-self c =
    let few : c.self.inside.made + 1 < 2 ^ 64 = made_small (core c.self.inside) (begins (goal.at.overflow_add-self c).After-begin).was.kept in
    let op : Op = next_of c.begin.new.self in
    let one : births_of op (cell (cells_of (core c.self.inside)) op) ≤ 1 = births_few op (cell (cells_of (core c.self.inside)) op) in
    omega (arith, few, one, c.make_step.ensures.births)

-- what is known as the step ends
ends : (c : After-answer) → MayBegin c.self.inside c.args.t c.args.work
ends c = may_begin c.self.inside c.args.self.now c.args.t c.args.work c.self.invariant c.self.view_is c.requires.mutator c.requires.present c.requires.work c.requires.idle c.see_label.ensures

-- the core that is left
abbrev after : After-answer → Core
after c =
    record (core c.self.inside) {
      headers = c.make_step.new.memory.headers;
      words = c.make_step.new.memory.words;
      epoch = c.make_step.new.memory.epoch;
      freed = c.make_step.new.memory.freed;
      crossing = c.make_step.new.memory.crossing;
      mutators = slice_set c.self.inside.machines.items (c.from-own.result - 1) c.make_step.new.machine;
      boxes = map held (slice_set c.self.inside.boxes.items (c.from-own.result - 1) c.make_step.new.mailbox);
      made = c.self.inside.made + c.make_step.result;
    }

-- it is the one of the definitions
left : (c : After-answer) → after c ≡ stepped (begun (core c.self.inside) c.args.t c.args.work) c.args.t
left c =
    first_step_is c.self.inside c.args.t c.from-own.result c.make_step.result c.args.work c.begin.new.self c.make_step.new.machine c.index_mut.result.now c.make_step.new.mailbox c.make_step.new.memory (ends c) c.from-own.ensures
    (began_read c.self.inside c.args.t c.from-own.result c.args.work c.index_mut-machine.result.now c.begin.new.self c.self.invariant (ends c) c.from-own.ensures c.index_mut-machine.ensures.value c.begin.ensures.begun)
    c.index_mut.ensures.value c.make_step.ensures.machine c.make_step.ensures.memory c.make_step.ensures.mailbox c.make_step.ensures.births

world : (c : After-answer) → IsWorld (after c)
world c = subst IsWorld (sym (left c)) (moved_world (begun (core c.self.inside) c.args.t c.args.work) (Move.Steps c.args.t) (ends c).world ((ends c).was.is, (ends c).busy))

pub invariant_of-self : goal.invariant_of-self
invariant_of-self c =
    record { world = world (goal.at.invariant_of-self c).After-answer; home = home_again c.self.inside.boxes.items (c.from-own.result - 1) c.make_step.new.mailbox (ap is_some c.make_step.ensures.mailbox) c.self.invariant.home }

pub returns-clause-stepped : goal.returns-clause-stepped
returns-clause-stepped c = left (goal.at.returns-clause-stepped c).After-answer ∙ ap (λ (s : Core). stepped (begun s c.args.t c.args.work) c.args.t) c.self.view_is

pub returns-clause-answer : goal.returns-clause-answer
returns-clause-answer c =
    let at : After-answer = (goal.at.returns-clause-answer c).After-answer in
    c.answer.ensures.answer ∙ ap answer_of (sym (machine_left (core c.self.inside) c.args.t c.from-own.result c.make_step.new.machine (ends at).was.kept (ends at).was.is c.from-own.ensures))

pub returns-clause-kept : goal.returns-clause-kept
returns-clause-kept c = world (goal.at.returns-clause-kept c).After-answer

pub returns-clause-begun : goal.returns-clause-begun
returns-clause-begun c = subst (λ (s : Core). IsWorld (begun s c.args.t c.args.work)) c.self.view_is (ends (goal.at.returns-clause-begun c).After-answer).world
