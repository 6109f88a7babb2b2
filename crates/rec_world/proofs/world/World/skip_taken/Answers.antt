-- The skip is so many steps.
use Rattle.std.proofs.Common.{◌≡◌, ◌-◌, ◌≤◌, slice_set, sym, ap, subst, ◌∙◌}
use Rattle.rec_world.proofs.Common.{Private, is_busy, IsAhead, skipped_to, Core, mutator, core, IsWorld}
use Rattle.rec_core.specs.Unfinished.{HasFound}
use Rattle.rec_core.specs.Worked.{StepsTo}
use Rattle.rec_core.proofs.Showing.{mutator_left}
use Rattle.rec_world.proofs.Calls.{Ready, ready, mutator_read}
use Rattle.rec_world.proofs.Skipping.{MaySkip, may_skip, skipping, skipping_is, path_world}
use Rattle.rec_world.proofs.world.World.skip_taken.Goals as goal
use Rattle.rec_world.proofs.world.World.skip_taken.Goals.{After-index_mut, After-skip_to}

begins : (c : After-index_mut) → Ready c.self.inside c.args.t
begins c = ready c.self.inside c.args.self.now c.args.t c.self.invariant c.self.view_is c.requires.mutator

-- the machine that was asked
asked : (c : After-index_mut) → c.index_mut.result.now ≡ mutator (core c.self.inside) c.args.t
asked c = mutator_read (core c.self.inside) c.args.t c.from.result c.index_mut.result.now c.self.invariant.world.shaped (begins c).is c.from.ensures c.index_mut.ensures.value

-- the skip may be made
may : (c : After-index_mut) → MaySkip (core c.self.inside) c.args.t c.lowest_free-slot.result
may c =
    may_skip (core c.self.inside) c.args.t c.lowest_free-slot.result (begins c).kept (begins c).is (subst (λ (x : Core). HasFound x (mutator x c.args.t).from (mutator x c.args.t).phase) (sym c.self.view_is) c.requires.found)
    c.lowest_free-slot.ensures.there c.lowest_free-slot.ensures.lower c.lowest_free-slot.ensures.free

pub skip_to-requires-clause-ahead : goal.skip_to-requires-clause-ahead
skip_to-requires-clause-ahead c =
    let here : After-index_mut = (goal.at.skip_to-requires-clause-ahead c).After-index_mut in
    subst (λ (p : Private). IsAhead p.phase here.lowest_free-slot.result) (sym (asked here)) (may here).ahead

pub skip_to-requires-clause-slots : goal.skip_to-requires-clause-slots
skip_to-requires-clause-slots c =
    let here : After-index_mut = (goal.at.skip_to-requires-clause-slots c).After-index_mut in
    subst (λ (p : Private). here.lowest_free-slot.result ≤ p.slots) (sym (asked here)) (may here).few

-- what is known as the skip ends
ends : (c : After-skip_to) → Ready c.self.inside c.args.t
ends c = ready c.self.inside c.args.self.now c.args.t c.self.invariant c.self.view_is c.requires.mutator

-- what is left
abbrev after : After-skip_to → Core
after c = record (core c.self.inside) { mutators = slice_set c.self.inside.machines.items (c.from.result - 1) c.skip_to.new.self }

left : (c : After-skip_to) → after c ≡ skipping (core c.self.inside) c.args.t c.lowest_free-slot.result
left c = skipping_is (core c.self.inside) c.args.t c.from.result c.lowest_free-slot.result c.index_mut.result.now c.skip_to.new.self c.self.invariant.world.shaped (ends c).is c.from.ensures c.index_mut.ensures.value c.skip_to.ensures.skipped

-- it is where steps lead
path : (c : After-skip_to) → StepsTo (core c.self.inside) c.args.t (after c)
path c =
    subst (StepsTo (core c.self.inside) c.args.t) (sym (left c))
    (may_skip (core c.self.inside) c.args.t c.lowest_free-slot.result (ends c).kept (ends c).is (subst (λ (x : Core). HasFound x (mutator x c.args.t).from (mutator x c.args.t).phase) (sym c.self.view_is) c.requires.found)
    c.lowest_free-slot.ensures.there c.lowest_free-slot.ensures.lower c.lowest_free-slot.ensures.free).path

world : (c : After-skip_to) → IsWorld (after c)
world c = (path_world (core c.self.inside) c.args.t (after c) c.self.invariant.world (ends c).is (path c)).0

pub invariant_of-self : goal.invariant_of-self
invariant_of-self c = record { world = world (goal.at.invariant_of-self c).After-skip_to; home = c.self.invariant.home }

pub returns-clause-path : goal.returns-clause-path
returns-clause-path c =
    let here : After-skip_to = (goal.at.returns-clause-path c).After-skip_to in
    subst (λ (x : Core). StepsTo x c.args.t (after here)) c.self.view_is (path here)

pub returns-clause-busy : goal.returns-clause-busy
returns-clause-busy c =
    let here : After-skip_to = (goal.at.returns-clause-busy c).After-skip_to in
    let w : Core = core c.self.inside in
    let read : c.index_mut.result.now ≡ mutator w c.args.t = mutator_read w c.args.t c.from.result c.index_mut.result.now c.self.invariant.world.shaped (ends here).is c.from.ensures c.index_mut.ensures.value in
    ap (λ (s : Core). is_busy (mutator s c.args.t)) (left here)
    ∙ ap is_busy (mutator_left w c.args.t (skipped_to (mutator w c.args.t) c.lowest_free-slot.result) (ends here).kept (ends here).is ∙ ap (λ p. skipped_to p c.lowest_free-slot.result) (sym read) ∙ sym c.skip_to.ensures.skipped)
    ∙ c.skip_to.ensures.busy ∙ ap is_busy read ∙ ap (λ (s : Core). is_busy (mutator s c.args.t)) c.self.view_is ∙ c.requires.busy

pub returns-clause-kept : goal.returns-clause-kept
returns-clause-kept c = world (goal.at.returns-clause-kept c).After-skip_to
