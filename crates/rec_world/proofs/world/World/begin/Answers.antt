-- The machine of the mutator begins, and the core is that of the definitions.
use Rattle.std.proofs.Common.{◌≡◌, ◌-◌, ◌<◌, false, slice_set, sym, ap, subst, ◌∙◌}
use Rattle.rec_world.proofs.Common.{Private, is_busy, IsValid, IsMutator, IsWork, Core, sight, mutator, Move, Fits, EndsRun, begun, core, IsWorld}
use Rattle.rec_core.specs.Kept.{IsKept}
use Rattle.rec_core.proofs.Asked.{begun_sight}
use Rattle.rec_core.proofs.Steps.{actor_of}
use Rattle.rec_world.proofs.Calls.{Ready, ready, mutator_read, begun_is, moved_world, own_work, world_kept}
use Rattle.rec_world.proofs.world.World.begin.Goals as goal
use Rattle.rec_world.proofs.world.World.begin.Goals.{After-begin}

-- the core before
abbrev before : After-begin → Core
before c = core c.self.inside

-- what it keeps
kept : (c : After-begin) → IsKept false (before c)
kept c = world_kept (before c) c.self.invariant.world

-- its mutator
mutator_is : (c : After-begin) → IsMutator (before c).config c.args.t
mutator_is c = subst (λ (s : Core). IsMutator s.config c.args.t) (sym c.self.view_is) c.requires.mutator

-- the work may begin
fits : (c : After-begin) → Fits (before c) (Move.Begins c.args.t c.args.work 0)
fits c = (
  mutator_is c,
  subst (λ (s : Core). is_busy (mutator s c.args.t) ≡ false) (sym c.self.view_is) c.requires.idle,
  subst (λ (s : Core). (mutator s c.args.t).left ≡ false) (sym c.self.view_is) c.requires.present,
  own_work (before c) c.args.t c.args.work (kept c) (mutator_is c) (subst (λ (s : Core). IsWork s.config c.args.work) (sym c.self.view_is) c.requires.work),
  c.see_label.ensures,
  (kept c).config.some_slots,
)

pub begin-requires-clause-valid : goal.begin-requires-clause-valid
begin-requires-clause-valid c =
    let now : Ready c.self.inside c.args.t = ready c.self.inside c.args.self.now c.args.t c.self.invariant c.self.view_is c.requires.mutator in
    subst (λ (p : Private). IsValid p c.args.work) (sym (mutator_read (core c.self.inside) c.args.t c.from.result c.index_mut.result.now c.self.invariant.world.shaped now.is c.from.ensures c.index_mut.ensures.value))
    (own_work (core c.self.inside) c.args.t c.args.work now.kept now.is (subst (λ (s : Core). IsWork s.config c.args.work) (sym c.self.view_is) c.requires.work))

pub begin-requires-clause-from : goal.begin-requires-clause-from
begin-requires-clause-from c =
    let now : Ready c.self.inside c.args.t = ready c.self.inside c.args.self.now c.args.t c.self.invariant c.self.view_is c.requires.mutator in
    subst (λ (p : Private). 0 < p.slots) (sym (mutator_read (core c.self.inside) c.args.t c.from.result c.index_mut.result.now c.self.invariant.world.shaped now.is c.from.ensures c.index_mut.ensures.value))
    (actor_of (core c.self.inside) c.args.t now.kept now.is).own.machine.first_slot

pub begin-requires-clause-awake : goal.begin-requires-clause-awake
begin-requires-clause-awake c =
    let now : Ready c.self.inside c.args.t = ready c.self.inside c.args.self.now c.args.t c.self.invariant c.self.view_is c.requires.mutator in
    subst (λ (p : Private). p.parked ≡ false) (sym (mutator_read (core c.self.inside) c.args.t c.from.result c.index_mut.result.now c.self.invariant.world.shaped now.is c.from.ensures c.index_mut.ensures.value))
    (actor_of (core c.self.inside) c.args.t now.kept now.is).own.awake

pub begin-requires-clause-stays : goal.begin-requires-clause-stays
begin-requires-clause-stays c =
    let now : Ready c.self.inside c.args.t = ready c.self.inside c.args.self.now c.args.t c.self.invariant c.self.view_is c.requires.mutator in
    subst (λ (p : Private). p.left ≡ false) (sym (mutator_read (core c.self.inside) c.args.t c.from.result c.index_mut.result.now c.self.invariant.world.shaped now.is c.from.ensures c.index_mut.ensures.value))
    (subst (λ (s : Core). (mutator s c.args.t).left ≡ false) (sym c.self.view_is) c.requires.present)

-- the core that is left
left : (c : After-begin) → ◌≡◌ {A = Core} (record (before c) { mutators = slice_set (before c).mutators (c.from.result - 1) c.begin.new.self }) (begun (before c) c.args.t c.args.work)
left c = begun_is (before c) c.args.t c.from.result c.args.work c.index_mut.result.now c.begin.new.self c.self.invariant.world.shaped (mutator_is c) c.from.ensures c.index_mut.ensures.value c.begin.ensures.begun

-- it is a world
world : (c : After-begin) → IsWorld (begun (before c) c.args.t c.args.work)
world c = moved_world (before c) (Move.Begins c.args.t c.args.work 0) c.self.invariant.world (fits c)

pub invariant_of-self : goal.invariant_of-self
invariant_of-self c =
    let here : After-begin = (goal.at.invariant_of-self c).After-begin in
    record { world = subst IsWorld (sym (left here)) (world here); home = c.self.invariant.home }

pub returns-clause-run : goal.returns-clause-run
returns-clause-run c =
    let here : After-begin = (goal.at.returns-clause-run c).After-begin in
    subst EndsRun (sym (left here)) ((world here).run)

pub returns-clause-kept : goal.returns-clause-kept
returns-clause-kept c =
    let here : After-begin = (goal.at.returns-clause-kept c).After-begin in
    subst IsWorld (sym (left here)) (world here)

pub returns-clause-seen : goal.returns-clause-seen
returns-clause-seen c =
    let here : After-begin = (goal.at.returns-clause-seen c).After-begin in
    ap sight (left here) ∙ begun_sight (before here) c.args.t c.args.work 0 ∙ ap sight c.self.view_is
