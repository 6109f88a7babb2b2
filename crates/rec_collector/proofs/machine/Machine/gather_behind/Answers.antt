-- The contract of `Machine::gather_behind`: the next mutator's mailbox is looked at that hasn't left, or the batch is applied.
use Rattle.std.proofs.Common.{◌≡◌, ℕ, ◌+◌, ◌*◌, ◌^◌, ◌<◌, ◌≤◌, Bool, List, length, arith, ap, sym, subst, ◌∙◌}
use Rattle.rec_log.specs.declared.contents.Contents.{Contents}
use Rattle.rec_counts.specs.Batch.{AreAlike, IsCovered}
use Rattle.rec_collector.proofs.Common.{IsFewTold, IsMachine, KeepsSizes, MayGatherBehind, Next, next_present, parts_of, told, Private}
use Rattle.rec_collector.specs.Inside.{private}
use Rattle.rec_collector.proofs.Following.{none_released, resting_cleared, rows_alike}
use Rattle.rec_collector.proofs.Gathering.{batch_keeps, batch_lands, next_keeps}
use Rattle.rec_collector.proofs.Keeping.{batch_follows}
use Rattle.rec_collector.proofs.Landing.{landed, landed_sizes, Lands}
use Rattle.rec_collector.proofs.Presence.{next_none}
use Rattle.rec_collector.proofs.machine.Machine.gather_behind.Goals as goal

-- it may gather behind this mutator, as its fields have it
gathers : {p now : Private} (mutator : ℕ) → p ≡ now → MayGatherBehind now mutator → MayGatherBehind p mutator
gathers mutator is g = subst (λ (p : Private). MayGatherBehind p mutator) (sym is) g

-- so many turns can be counted
few_turns : (p : Private) (mutator : ℕ) → IsMachine p → MayGatherBehind p mutator → p.turns + 1 < 2 ^ 64
few_turns p mutator k g =
    let there : mutator ≤ length p.newer = g.there in
    let few : length p.newer < 2 ^ 8 = k.few in
    let turns : p.turns ≤ 2 * mutator = g.turns in
    omega arith

-- so can the sets that were tested and those that are left
few_sets : (p : Private) (mutator : ℕ) → IsMachine p → MayGatherBehind p mutator → IsFewTold (parts_of p)
few_sets p mutator k g =
    let sets : told p.sets + length p.counts.sets ≤ 2 ^ 16 * p.collections = g.told in
    let collections : p.collections + 1 ≤ p.epoch = g.requested in
    let epochs : p.epoch < 2 ^ 24 = k.epoch in
    omega arith

pub next_present-requires-clause-there : goal.next_present-requires-clause-there
next_present-requires-clause-there c =
    let g = gathers c.args.mutator c.self.view_is c.requires.gathers in
    omega (arith, g.there, c.self.invariant.left, ap length c.deref.ensures.value)

pub next_present-requires-clause-few : goal.next_present-requires-clause-few
next_present-requires-clause-few c = omega (arith, c.self.invariant.few, c.self.invariant.left, ap length c.deref.ensures.value)

pub overflow_add-self : goal.overflow_add-self
overflow_add-self c = omega (arith, few_turns (private c.self.inside) c.args.mutator c.self.invariant (gathers c.args.mutator c.self.view_is c.requires.gathers))

pub overflow_add-self-2 : goal.overflow_add-self-2
overflow_add-self-2 c = omega (arith, few_turns (private c.self.inside) c.args.mutator c.self.invariant (gathers c.args.mutator c.self.view_is c.requires.gathers))

pub apply_batch-self-inside-requires-clause-cleared : goal.apply_batch-self-inside-requires-clause-cleared
apply_batch-self-inside-requires-clause-cleared c = resting_cleared (parts_of (private c.self.inside)) (gathers c.args.mutator c.self.view_is c.requires.gathers).rest

pub apply_batch-self-inside-requires-clause-unreleased : goal.apply_batch-self-inside-requires-clause-unreleased
apply_batch-self-inside-requires-clause-unreleased c = none_released (gathers c.args.mutator c.self.view_is c.requires.gathers).rest

pub apply_batch-self-inside-requires-clause-counted : goal.apply_batch-self-inside-requires-clause-counted
apply_batch-self-inside-requires-clause-counted c = (gathers c.args.mutator c.self.view_is c.requires.gathers).rest.counted

pub apply_batch-self-inside-requires-clause-told : goal.apply_batch-self-inside-requires-clause-told
apply_batch-self-inside-requires-clause-told c = few_sets (private c.self.inside) c.args.mutator c.self.invariant (gathers c.args.mutator c.self.view_is c.requires.gathers)

pub invariant_of-self : goal.invariant_of-self
invariant_of-self c =
    next_keeps (private c.self.inside) c.args.mutator c.in-Some.next c.self.invariant (gathers c.args.mutator c.self.view_is c.requires.gathers)
    (ap (λ (left : List Bool). next_present left c.args.mutator) (sym c.deref.ensures.value) ∙ sym c.next_present.ensures ∙ c.in-Some.is)

pub returns-in-Some-clause-kept : goal.returns-in-Some-clause-kept
returns-in-Some-clause-kept c = invariant_of-self c

pub apply_batch-self-inside-requires-clause-covered : goal.apply_batch-self-inside-requires-clause-covered
apply_batch-self-inside-requires-clause-covered c =
    let p : Private = private c.self.inside in
    let g : MayGatherBehind p c.args.mutator = gathers c.args.mutator c.self.view_is c.requires.gathers in
    subst (λ (newer : List Contents). IsCovered p.counts newer c.deref-3.result.now) (sym c.deref-2.ensures.value)
    (subst (λ (older : List Contents). IsCovered p.counts p.newer older) (sym c.deref-3.ensures.value)
    (g.covered (next_none p.left c.args.mutator (ap (λ (left : List Bool). next_present left c.args.mutator) (sym c.deref.ensures.value) ∙ sym c.next_present.ensures ∙ c.in_default.is))))

pub apply_batch-self-inside-requires-clause-alike : goal.apply_batch-self-inside-requires-clause-alike
apply_batch-self-inside-requires-clause-alike c =
    let p : Private = private c.self.inside in
    subst (λ (newer : List Contents). AreAlike newer c.deref-3.result.now) (sym c.deref-2.ensures.value)
    (subst (λ (older : List Contents). AreAlike p.newer older) (sym c.deref-3.ensures.value) (rows_alike p c.self.invariant))

pub invariant_of-self-2 : goal.invariant_of-self-2
invariant_of-self-2 c =
    let p : Private = private c.self.inside in
    let g : MayGatherBehind p c.args.mutator = gathers c.args.mutator c.self.view_is c.requires.gathers in
    let none = ap (λ (left : List Bool). next_present left c.args.mutator) (sym c.deref.ensures.value) ∙ sym c.next_present.ensures ∙ c.in_default.is in
    subst (λ (n : Next). IsMachine (landed p n)) (sym (batch_follows p _ _ _ c.apply_batch-self-inside.ensures c.deref-2.ensures.value c.deref-3.ensures.value)) (batch_keeps p c.args.mutator c.self.invariant g none)

pub returns-clause-same : goal.returns-clause-same
returns-clause-same c =
    let p : Private = private c.self.inside in
    let g : MayGatherBehind p c.args.mutator = gathers c.args.mutator c.self.view_is c.requires.gathers in
    let none = ap (λ (left : List Bool). next_present left c.args.mutator) (sym c.deref.ensures.value) ∙ sym c.next_present.ensures ∙ c.in_default.is in
    let follows = batch_follows p _ _ _ c.apply_batch-self-inside.ensures c.deref-2.ensures.value c.deref-3.ensures.value in
    subst (λ (q : Private). KeepsSizes q c.end_if_nothing_is_free.new.self) c.self.view_is
    (landed_sizes p c.end_if_nothing_is_free.new.self _ (subst (Lands p) (sym follows) (batch_lands p c.args.mutator c.self.invariant g none)) c.end_if_nothing_is_free.ensures.same)
