-- The collector names an operation, the memory carries it out, the collector learns: the core is that of the definitions.
use Rattle.std.proofs.Common.{◌≡◌, ℕ, ◌-◌, ◌^◌, ◌<◌, ◌≤◌, List, Option, None, Some, map, length, slice_index_or, refl, sym, ap, subst, ◌∙◌}
use Rattle.std.specs.Option.{IfSome, IsSome}
use Rattle.std.proofs.lemmas.List.{get_or_default}
use Rattle.rec_world.proofs.Common.{Contents, Core, box, Move, looked_at, turned, turned_at, core, held, held_by, IsWorld}
use Rattle.rec_word.specs.declared.op.Op.{Op}
use Rattle.rec_collector.specs.Given.{IsGiven, IsSized, swapping_for}
use Rattle.rec_collector.specs.Next.{next_of}
use Rattle.rec_collector.specs.Private.{Private}
use Rattle.rec_collector.specs.Shown.{HasTaken}
use Rattle.rec_collector.specs.Took.{took_of, turn_of}
use Rattle.rec_collector.specs.declared.turn.Turn.{Turn}
use Rattle.rec_collector.specs.declared.turn.Turn.TheVariants as turns
use Rattle.rec_core.specs.Preconditions.{MayTurn}
use Rattle.rec_core.specs.Turn.{IsTurn, seen_at, step_seen, told_at, turn_told}
use Rattle.rec_core.proofs.BareRuns.{may_turn, turn_taken}
use Rattle.rec_core.proofs.PlainWords.{finds_plain}
use Rattle.rec_world.proofs.Calls.{ReadyToTurn, ready_to_turn, box_read, moved_world}
use Rattle.rec_world.proofs.TurnRuns.{turn_of_world}
use Rattle.rec_world.proofs.Turnings.{holds_looked, home_still, turned_is}
use Rattle.rec_world.proofs.world.World.turn_seen.Goals as goal
use Rattle.rec_world.proofs.world.World.turn_seen.Goals.{In_default, In-Some, After-gather}

-- where no operation comes next, the epochs are spent
pub returns-in_default-clause-turn : goal.returns-in_default-clause-turn
returns-in_default-clause-turn c =
    let w : Core = core c.self.inside in
    let none : ◌≡◌ {A = Option Op} (next_of w.collector) None = sym c.next.ensures.next ∙ c.in_default.is in
    let same : IsTurn w w turns.EpochsSpent = subst (λ (x : Core × Turn). IsTurn w x.0 x.1) (ap (λ (o : Option Op). (turned_at w o, told_at w o)) none) (turn_of_world w c.self.invariant.world) in
    subst (λ (x : Core). IsTurn x x turns.EpochsSpent) c.self.view_is same

-- what is known as the operation is named
begins : (c : In-Some) → ReadyToTurn c.self.inside
begins c = ready_to_turn c.self.inside c.self.invariant

named : (c : In-Some) → ◌≡◌ {A = Option Op} (next_of c.self.inside.collector) (Some c.in-Some.op)
named c = sym c.next.ensures.next ∙ c.in-Some.is

may : (c : In-Some) → MayTurn (core c.self.inside) c.in-Some.op
may c = subst (λ (x : Option Op). IfSome x (MayTurn (core c.self.inside))) (named c) (may_turn (core c.self.inside) (begins c).kept)

pub perform-found-requires : goal.perform-found-requires
perform-found-requires c = (may (goal.at.perform-found-requires c).In-Some).within

pub took_as-turn-requires-clause-given : goal.took_as-turn-requires-clause-given
took_as-turn-requires-clause-given c = subst (IsGiven c.self.inside.collector) (sym c.perform-found.ensures.found) (may (goal.at.took_as-turn-requires-clause-given c).In-Some).given

-- the mailbox that is held, if any, is the one that was looked at: it is there, and as large as the buffers
looked : (c : In-Some) (found : ℕ) (p : Private) → p ≡ took_of c.self.inside.collector found → IfSome (swapping_for p.phase) (λ t. t ≡ looked_at c.self.inside.collector.phase)
looked c found p is = subst (λ (q : Private). IfSome (swapping_for q.phase) (λ t. t ≡ looked_at c.self.inside.collector.phase)) (sym is) (holds_looked c.self.inside.collector found (begins c).kept.collector.between)

with_looked : (P : ℕ → Type 0) (x : Option ℕ) (n : ℕ) → IfSome x (λ t. t ≡ n) → P n → IfSome x P
with_looked P None n same holds = tt
with_looked P (Some t) n same holds = subst P (sym same) holds

pub gather-requires-clause-there : goal.gather-requires-clause-there
gather-requires-clause-there c =
    let at : In-Some = (goal.at.gather-requires-clause-there c).In-Some in
    let p : Private = c.took_as-turn.new.self in
    with_looked (λ t. (1 ≤ t) × (t - 1 < length c.self.inside.boxes.items)) (swapping_for p.phase) (looked_at c.self.inside.collector.phase) (looked at c.perform-found.result p c.took_as-turn.ensures.took) ((begins at).is.0, (begins at).boxed)

pub gather-requires-clause-home : goal.gather-requires-clause-home
gather-requires-clause-home c = c.self.invariant.home

pub gather-requires-clause-sized : goal.gather-requires-clause-sized
gather-requires-clause-sized c =
    let at : In-Some = (goal.at.gather-requires-clause-sized c).In-Some in
    let w : Core = core c.self.inside in
    let t : ℕ = looked_at w.collector.phase in
    let its : held_by c.self.inside.boxes.items t ≡ box w t = box_read c.self.inside.boxes.items t t (slice_index_or c.self.inside.boxes.items (t - 1) None) refl (begins at).boxed (get_or_default c.self.inside.boxes.items (t - 1) None (slice_index_or c.self.inside.boxes.items (t - 1) None) (begins at).boxed) in
    let sized : IsSized c.took_as-turn.new.self.registers c.took_as-turn.new.self.capacity (box w t) = (let P : ℕ → ℕ → Contents → Type 0 = IsSized in rw (c.took_as-turn.ensures.same.registers, c.took_as-turn.ensures.same.capacity) (may at).sized) in
    with_looked (λ u. IsSized c.took_as-turn.new.self.registers c.took_as-turn.new.self.capacity (held_by c.self.inside.boxes.items u)) (swapping_for c.took_as-turn.new.self.phase) t (looked at c.perform-found.result c.took_as-turn.new.self c.took_as-turn.ensures.took) (subst (IsSized c.took_as-turn.new.self.registers c.took_as-turn.new.self.capacity) (sym its) sized)

-- the core that is left
abbrev after : After-gather → Core
after c =
    record (core c.self.inside) {
      headers = c.perform-found.new.self.headers;
      words = c.perform-found.new.self.words;
      epoch = c.perform-found.new.self.epoch;
      freed = c.perform-found.new.self.freed;
      crossing = c.perform-found.new.self.crossing;
      boxes = map held c.gather.new.boxes.items;
      collector = c.gather.new.collector;
    }

-- what is known as the turn ends
ends : (c : After-gather) → ReadyToTurn c.self.inside
ends c = ready_to_turn c.self.inside c.self.invariant

its_op : (c : After-gather) → ◌≡◌ {A = Option Op} (next_of c.self.inside.collector) (Some c.in-Some.op)
its_op c = sym c.next.ensures.next ∙ c.in-Some.is

-- it is the one of the definitions
left : (c : After-gather) → after c ≡ turned (core c.self.inside)
left c =
    turned_is (core c.self.inside) c.self.inside.boxes.items c.gather.new.boxes.items c.in-Some.op c.perform-found.result c.took_as-turn.new.self c.gather.new.collector c.perform-found.new.self
    (ends c).kept.collector.between (λ t looks. subst (λ n. n < 2 ^ 32) (sym c.perform-found.ensures.found) (finds_plain (core c.self.inside) c.in-Some.op (ends c).kept (its_op c) t looks)) refl (ends c).boxed c.self.invariant.home (its_op c) c.perform-found.ensures.found c.perform-found.ensures.left c.took_as-turn.ensures.took c.gather.ensures.collector c.gather.ensures.boxes

world : (c : After-gather) → IsWorld (after c)
world c = subst IsWorld (sym (left c)) (moved_world (core c.self.inside) Move.Turns c.self.invariant.world tt)

pub invariant_of-self : goal.invariant_of-self
invariant_of-self c =
    record {
      world = world (goal.at.invariant_of-self c).After-gather;
      home = subst (λ (bs : List (Option Contents)). (i : ℕ) → i < length bs → IsSome (slice_index_or bs i None)) (sym c.gather.ensures.boxes) (home_still c.took_as-turn.new.self c.self.inside.boxes.items (swapping_for c.took_as-turn.new.self.phase) c.self.invariant.home);
    }

-- the turn that was made
pub returns-clause-turn : goal.returns-clause-turn
returns-clause-turn c =
    let at : After-gather = (goal.at.returns-clause-turn c).After-gather in
    let w : Core = core c.self.inside in
    let told : turn_told w ≡ c.took_as-turn.result = ap (told_at w) (its_op at) ∙ sym (c.took_as-turn.ensures.turn ∙ ap (turn_of w.collector) c.perform-found.ensures.found) in
    subst (λ (x : Core). IsTurn x (after at) c.took_as-turn.result) c.self.view_is (subst (λ (x : Core × Turn). IsTurn w x.0 x.1) (λ i. (sym (left at) i, told i)) (turn_of_world w c.self.invariant.world))

pub returns-clause-kept : goal.returns-clause-kept
returns-clause-kept c = world (goal.at.returns-clause-kept c).After-gather

-- and the step that the collector has taken in it
pub returns-clause-taken : goal.returns-clause-taken
returns-clause-taken c =
    let at : After-gather = (goal.at.returns-clause-taken c).After-gather in
    let w : Core = core c.self.inside in
    let seen : step_seen w ≡ Some (c.in-Some.op, c.perform-found.result) = ap (seen_at w) (its_op at) ∙ ap (λ n. Some (c.in-Some.op, n)) (sym c.perform-found.ensures.found) in
    let taken : HasTaken c.in-Some.op c.perform-found.result (turned w).collector = subst (λ o. IfSome o (λ x. HasTaken x.0 x.1 (turned w).collector)) seen (turn_taken w (ends at).kept) in
    subst (λ (x : Core). HasTaken c.in-Some.op c.perform-found.result x.collector) (sym (left at)) taken
