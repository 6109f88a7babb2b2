-- The machine names an operation, the memory carries it out, the machine learns: the core is that of the definitions.
use Rattle.std.proofs.Common.{◌≡◌, ◌-◌, ◌+◌, ◌<◌, ◌≤◌, ◌^◌, Option, true, map, length, slice_set, arith, refl, sym, ap, subst, ◌∙◌}
use Rattle.std.specs.Option.{is_some}
use Rattle.rec_world.proofs.Common.{next_of, is_busy, answer_of, cell, births_of, Core, cells_of, mutator, Move, stepped, core, held, IsWorld}
use Rattle.rec_mutator.specs.declared.made.Made.{Made}
use Rattle.rec_core.specs.Preconditions.{MayStep}
use Rattle.rec_world.specs.Step.{IsStep}
use Rattle.rec_world.proofs.Step.{step_is_one}
use Rattle.rec_core.proofs.Words.{may_step}
use Rattle.rec_world.proofs.Calls.{Ready, ready, mutator_read, home_again, machine_left, moved_world, made_small, births_few}
use Rattle.rec_world.proofs.OneStep.{makes_step, made_step_is}
use Rattle.rec_world.proofs.world.World.step.Goals as goal
use Rattle.rec_world.proofs.world.World.step.Goals.{After-index_mut-machine, After-answer}

-- what is known as the machine is asked
begins : (c : After-index_mut-machine) → Ready c.self.inside c.args.t
begins c = ready c.self.inside c.args.self.now c.args.t c.self.invariant c.self.view_is c.requires.mutator

may : (c : After-index_mut-machine) → MayStep (core c.self.inside) c.args.t
may c = may_step (core c.self.inside) c.args.t (begins c).kept (begins c).is (ap (λ (s : Core). is_busy (mutator s c.args.t)) c.self.view_is ∙ c.requires.busy)

-- the machine that was asked
asked : (c : After-index_mut-machine) → c.index_mut-machine.result.now ≡ mutator (core c.self.inside) c.args.t
asked c = mutator_read (core c.self.inside) c.args.t c.from-index.result c.index_mut-machine.result.now c.self.invariant.world.shaped (begins c).is c.from-index.ensures c.index_mut-machine.ensures.value

pub index_mut-requires : goal.index_mut-requires
index_mut-requires c =
    let there : c.args.t - 1 < length c.self.inside.boxes.items = (begins (goal.at.index_mut-requires c).After-index_mut-machine).boxed in
    omega (arith, there, c.from-index.ensures)

pub make_step-requires : goal.make_step-requires
make_step-requires c =
    let here : After-index_mut-machine = (goal.at.make_step-requires c).After-index_mut-machine in
    makes_step (core c.self.inside) c.args.t c.from-index.result c.self.inside.boxes.items c.index_mut-machine.result.now c.index_mut.result.now (may here) (ap (λ (s : Core). is_busy (mutator s c.args.t)) c.self.view_is ∙ c.requires.busy)
    (asked here) refl (begins here).boxed c.from-index.ensures c.self.invariant.home c.index_mut.ensures.value

pub overflow_add-self : goal.overflow_add-self
overflow_add-self c =
    let few : c.self.inside.made + 1 < 2 ^ 64 = made_small (core c.self.inside) (begins (goal.at.overflow_add-self c).After-index_mut-machine).kept in
    let one : births_of (next_of c.index_mut-machine.result.now) (cell (cells_of (core c.self.inside)) (next_of c.index_mut-machine.result.now)) ≤ 1 = births_few (next_of c.index_mut-machine.result.now) (cell (cells_of (core c.self.inside)) (next_of c.index_mut-machine.result.now)) in
    omega (arith, few, one, c.make_step.ensures.births)

-- what is known as the step ends
ends : (c : After-answer) → Ready c.self.inside c.args.t
ends c = ready c.self.inside c.args.self.now c.args.t c.self.invariant c.self.view_is c.requires.mutator

was_busy : (c : After-answer) → is_busy (mutator (core c.self.inside) c.args.t) ≡ true
was_busy c = ap (λ (s : Core). is_busy (mutator s c.args.t)) c.self.view_is ∙ c.requires.busy

-- the core that is left
abbrev after : After-answer → Core
after c =
    record (core c.self.inside) {
      headers = c.make_step.new.memory.headers;
      words = c.make_step.new.memory.words;
      epoch = c.make_step.new.memory.epoch;
      freed = c.make_step.new.memory.freed;
      crossing = c.make_step.new.memory.crossing;
      mutators = slice_set c.self.inside.machines.items (c.from-index.result - 1) c.make_step.new.machine;
      boxes = map held (slice_set c.self.inside.boxes.items (c.from-index.result - 1) c.make_step.new.mailbox);
      made = c.self.inside.made + c.make_step.result;
    }

-- it is the one of the definitions
left : (c : After-answer) → after c ≡ stepped (core c.self.inside) c.args.t
left c =
    made_step_is (core c.self.inside) c.args.t c.from-index.result c.make_step.result c.self.inside.boxes.items c.index_mut-machine.result.now c.make_step.new.machine c.index_mut.result.now c.make_step.new.mailbox c.make_step.new.memory
    c.self.invariant.world.shaped (ends c).is refl (ends c).boxed c.from-index.ensures c.index_mut-machine.ensures.value c.index_mut.ensures.value
    c.make_step.ensures.machine c.make_step.ensures.memory c.make_step.ensures.mailbox c.make_step.ensures.births

world : (c : After-answer) → IsWorld (after c)
world c = subst IsWorld (sym (left c)) (moved_world (core c.self.inside) (Move.Steps c.args.t) c.self.invariant.world ((ends c).is, was_busy c))

pub invariant_of-self : goal.invariant_of-self
invariant_of-self c =
    record { world = world (goal.at.invariant_of-self c).After-answer; home = home_again c.self.inside.boxes.items (c.from-index.result - 1) c.make_step.new.mailbox (ap is_some c.make_step.ensures.mailbox) c.self.invariant.home }

pub returns-clause-step : goal.returns-clause-step
returns-clause-step c =
    let at : After-answer = (goal.at.returns-clause-step c).After-answer in
    let w : Core = core c.self.inside in
    let answered : c.answer.result ≡ answer_of (mutator (stepped w c.args.t) c.args.t)
    = c.answer.ensures.answer ∙ ap answer_of (sym (machine_left w c.args.t c.from-index.result c.make_step.new.machine (ends at).kept (ends at).is c.from-index.ensures) ∙ ap (λ (s : Core). mutator s c.args.t) (left at)) in
    subst (λ (s : Core). IsStep s c.args.t c.answer.result (after at)) c.self.view_is
    (subst (λ (x : Option Made × Core). IsStep w c.args.t x.0 x.1) (λ i. (sym answered i, sym (left at) i)) (step_is_one w c.args.t (ends at).kept c.self.invariant.world.run (ends at).is (was_busy at)))

pub returns-clause-kept : goal.returns-clause-kept
returns-clause-kept c = world (goal.at.returns-clause-kept c).After-answer
