-- A step leaves an orange member as it was, or lowers it, and names it nowhere.
use Rattle.std.proofs.Common.{◌≡◌, ◌⊎◌, ℕ, ◌+◌, ◌-◌, ◌^◌, ◌<◌, ◌==◌, ◌&&◌, not, Bool, true, false, Option, None, Some, IfSome, IsSome, List, refl, sym, ap, subst, ◌∙◌, arith, inl, inr}
use Rattle.std.proofs.lemmas.Bool.{cond-false, cond-true, eq-eqb, ne_eqb}
use Rattle.std.proofs.lemmas.Bool.Decides.{eqb_tells}
use Rattle.rec_collector.proofs.Common.{Looking, Op, Contents, Orange, Slot, State, slot_at, one, emptied, next_from, prep_started, with_freed, with_released, relieved_at, IsGiven, IsGivenAt, Idle, IsAt, IsAtRest, IsMachine, buffer_at, next_present, noted, under_way, Parts, new_freeing, new_release, Private, parts_of, zeros_released, Begun, counted_by, freeing_at, releasing_at, tested, step_of, swapped_of, took_at, took_of, turn_of, Phase, Returning, Releasing, Freeing, Trying, Preparing, Held, Touched}
use Rattle.rec_word.specs.Word.{target_of}
use Rattle.rec_counts.specs.Batch.{applied, AreAlike, IsApplied, IsCovered, touches}
use Rattle.rec_counts.proofs.Touching.{decremented_touched, touched_orange}
use Rattle.rec_counts.proofs.Whole.{is_applied}
use Rattle.rec_release.specs.TakenOff.{down_if, IsApart, is_lowered, taken_off}
use Rattle.rec_word.specs.Load.{Load}
use Rattle.rec_collector.specs.Given.{IsLookGiven}
use Rattle.rec_collector.specs.Took.{crossed_for}
use Rattle.rec_collector.proofs.Gathering.{crossed_keeps}
use Rattle.rec_collector.specs.Outside.{HasSets, IsOutside}
use Rattle.rec_collector.specs.Step.{Step, GoesOn, PreparesOn, TriesOn, ClearsOn, IsNext, IsTested, IsBetween}
use Rattle.rec_collector.specs.Touched.{named_looking, decrements, IsOrangeIn, named_at, named_behind, named_by, tried_at, WasUntouched}
use Rattle.rec_collector.specs.declared.turn.Turn.{Turn}
use Rattle.rec_collector.proofs.Following.{none_released, rows_alike}
use Rattle.rec_collector.proofs.Goings.{emptied_same, freed_by, freed_off, released_by, released_off, freed_listed}
use Rattle.rec_collector.proofs.Outside.{Lowers, next_lowers, given_lowers, off_lowers, refurbished_lowers, same_lowers, swept_lowers, batch_same}
use Rattle.rec_collector.proofs.Steps.{prepared_on, step_made, tried_on}
use Rattle.rec_collector.proofs.Landing.{now_at}
use Rattle.rec_collector.proofs.Presence.{gone_behind, next_is, none_is}
use Rattle.rec_collector.specs.Next.{is_spent}
use Rattle.rec_release.specs.declared.at.At.{At}
use Rattle.rec_word.specs.declared.member.Member.{Member}
use Rattle.rec_release.specs.CycleFree as frees
use Rattle.rec_release.specs.Release as releases
use Rattle.rec_trial.specs.Trial as trials
use Rattle.rec_sigma.specs.Prepare as preps
use Rattle.rec_release.specs.Sweep as sweeps
use Rattle.rec_trial.specs.Rules.{visible}

-- each orange member was one before, and was named so often, which is nowhere
record Spares (s t : State) (x named : ℕ) : Type 0 where
  pub each : (number : ℕ) → IsOrangeIn t number x → WasUntouched s t number x named

lowers_spares : (s t : State) (x : ℕ) → Lowers s t → Spares s t x 0
lowers_spares s t x l = record { each = λ number o. let m = (l x).member number o.0 o.1 in record { orange = (m.set, m.colour); lowered = m.by; count = m.count; cyclic = m.cyclic; unnamed = refl } }

-- one after the other
pub untouched_on : {s t u : State} {number x m n : ℕ} (k : ℕ) → WasUntouched s t number x m → WasUntouched t u number x n → k ≡ m + n → WasUntouched s u number x k
untouched_on k first second e = record {
  orange = first.orange;
  lowered = first.lowered + second.lowered;
  count = omega (arith, first.count, second.count);
  cyclic = omega (arith, first.cyclic, second.cyclic);
  unnamed = omega (arith, e, first.unnamed, second.unnamed);
}

-- where nothing happens
pub untouched_same : {s : State} {number x : ℕ} → IsOrangeIn s number x → WasUntouched s s number x 0
untouched_same o = record { orange = o; lowered = 0; count = omega arith; cyclic = omega arith; unnamed = refl }

spares_then : {s t u : State} {x n : ℕ} → Spares s t x n → Spares t u x 0 → Spares s u x n
spares_then {n = n} a b = record { each = λ number o. let second = b.each number o in untouched_on n (a.each number second.orange) second (omega arith) }

same_spares : (s t : State) (x : ℕ) → t ≡ s → Spares s t x 0
same_spares s t x e = record { each = λ number o. subst (λ u. WasUntouched s u number x 0) (sym e) (untouched_same (subst (λ u. IsOrangeIn u number x) e o)) }

-- a decrement takes the colour from its target
off_spares : (lowers : Bool) (s : State) (target : Option ℕ) (x : ℕ) → IsApart s → IfSome target (λ y. 0 < (slot_at s y).count) → Spares s (taken_off lowers s target) x (decrements lowers s target x)
off_spares lowers s None x a h = lowers_spares s s x (same_lowers s s (λ y. refl))
off_spares lowers s (Some y) x a h = record {
  each = λ number o.
      let m = (off_lowers lowers s (Some y) a h x).member number o.0 o.1 in
      record { orange = (m.set, m.colour); lowered = m.by; count = m.count; cyclic = m.cyclic; unnamed = go (x == y) (is_lowered lowers (slot_at s x).colour) refl refl m.colour o.1 };
}
  where
    go : (b l : Bool) → (x == y) ≡ b → is_lowered lowers (slot_at s x).colour ≡ l → (slot_at s x).colour ≡ Orange → (slot_at (taken_off lowers s (Some y)) x).colour ≡ Orange → one (b && not l) ≡ 0
    go false l e f c o = refl
    go true true e f c o = refl
    go true false e f c o =
        let here : y ≡ x = elim (eqb_tells x y) [ inl q ↦ sym q.1 | inr q ↦ let n : true ≡ false = sym e ∙ q.0 in absurd (cc) ] in
        let plain : is_lowered lowers (slot_at s y).colour ≡ false = ap (λ z. is_lowered lowers (slot_at s z).colour) here ∙ f in
        let down : taken_off lowers s (Some y) ≡ down_if false s y = ap (λ b. down_if b s y) plain in
        let unreleased : (slot_at s y).released ≡ false = ap (λ z. (slot_at s z).released) here ∙ (a x c).unreleased in
        absurd (touched_orange (slot_at (down_if false s y) y).colour (decremented_touched s y unreleased) (ap (λ z. (slot_at (down_if false s y) z).colour) here ∙ ap (λ t. (slot_at t x).colour) (sym down) ∙ o))

-- the zeros are to be released
zeros_spares : (lowers : Bool) (w : Parts) (x : ℕ) → Spares w.counts (zeros_released lowers w).parts.counts x 0
unfolding releases.started_of
zeros_spares lowers w x = lowers_spares w.counts (next_from w.counts.zeros w.counts).counts x (next_lowers w.counts)

-- a word came out of a field of a released slot
released_spares : (m : releases.Machine) (w : Parts) (word x : ℕ) → IsSome m.at → IsApart w.counts → IfSome (target_of word) (λ y. 0 < (slot_at w.counts y).count) → Spares w.counts (with_released m w word).parts.counts x (decrements m.lowers w.counts (target_of word) x)
released_spares m w word x busy a h = released_by (λ b. Spares w.counts b.parts.counts x n) m w word busy (λ at e l. off)
    (λ at e l. let t : State = emptied (released_off m w word) at.slot in spares_then (spares_then off (lowers_spares (released_off m w word) t x (same_lowers (released_off m w word) t (emptied_same (released_off m w word) at.slot).0))) (lowers_spares t (next_from t.zeros t).counts x (next_lowers t)))
  where
    n : ℕ
    n = decrements m.lowers w.counts (target_of word) x

    off : Spares w.counts (released_off m w word) x n
    off = off_spares m.lowers w.counts (target_of word) x a h

-- a word came out of a field of a member of the set that is freed
freed_spares : (m : frees.Machine) (w : Parts) (word x : ℕ) → IsSome m.at → IsApart w.counts → IfSome (target_of word) (λ y. 0 < (slot_at w.counts y).count) → Spares w.counts (with_freed m w word).parts.counts x (decrements true w.counts (target_of word) x)
freed_spares m w word x busy a h = freed_by (λ b. Spares w.counts b.parts.counts x n) m w word busy (λ at e l. off) (λ at e l i. off)
    (λ at e l i. spares_then (spares_then off (lowers_spares _ _ x (same_lowers (freed_off w word) (frees.listed (freed_off w word)) (λ y. refl)))) (zeros_spares true (freed_listed w word) x))
  where
    n : ℕ
    n = decrements true w.counts (target_of word) x

    off : Spares w.counts (freed_off w word) x n
    off = off_spares true w.counts (target_of word) x a h

-- the last set is tested
tested_spares : (w : Parts) (v : Begun) (x : ℕ) → IsTested w v → Spares w.counts v.parts.counts x 0
unfolding frees.started_of
tested_spares w v x (IsTested.passes orange none is) = subst (λ (u : Begun). Spares w.counts u.parts.counts x 0) (sym is) (lowers_spares w.counts (frees.given_up w.counts) x (given_lowers w.counts))
tested_spares w v x (IsTested.fails_delta s not last is) = subst (λ (u : Begun). Spares w.counts u.parts.counts x 0) (sym is) (spares_then (lowers_spares w.counts s x (refurbished_lowers w.counts s last)) (zeros_spares true (record w { counts = s }) x))
tested_spares w v x (IsTested.fails_sigma s orange some last is) = subst (λ (u : Begun). Spares w.counts u.parts.counts x 0) (sym is) (spares_then (lowers_spares w.counts s x (refurbished_lowers w.counts s last)) (zeros_spares true (record w { counts = s }) x))

-- where a trial begins, its sets are of the requested epoch
pub prepares_late : (p q : Private) (w : Parts) (v : preps.Work) (turn : Turn) → PreparesOn p w v q turn → tried_at q.epoch q.phase ≡ p.epoch
prepares_late p q w v turn (PreparesOn.more busy g) = ap (λ (r : Private). tried_at r.epoch r.phase) g.after
prepares_late p q w v turn (PreparesOn.sweeps_next done some g) = ap (λ (r : Private). tried_at r.epoch r.phase) g.after
prepares_late p q w v turn (PreparesOn.completes done none e) = ap (λ (r : Private). tried_at r.epoch r.phase) e.after

pub tries_late : (p q : Private) (w : Parts) (v : trials.Work) (turn : Turn) → TriesOn p w v q turn → tried_at q.epoch q.phase ≡ p.epoch
tries_late p q w v turn (TriesOn.more busy g) = ap (λ (r : Private). tried_at r.epoch r.phase) g.after
tries_late p q w v turn (TriesOn.prepares done on) = prepares_late p q _ _ turn on

-- what a step leaves of an orange member, and sets
abbrev Leaves : State → Private → (x named : ℕ) → Type 0
Leaves s q x named = Spares s q.counts x named × HasSets q.phase

-- what was begun has sets, as every phase between a batch and the next trial
abbrev IsSetting : Option Phase → Type 0
IsSetting None = Unit {0}
IsSetting (Some phase) = HasSets phase

releasing_setting : (m : releases.Machine) (at : Option At) → IsSetting (releasing_at m at)
releasing_setting m None = tt
releasing_setting m (Some a) = tt

freeing_setting : (m : frees.Machine) (at : Option Member) → IsSetting (freeing_at m at)
freeing_setting m None = tt
freeing_setting m (Some a) = tt

zeros_setting : (lowers : Bool) (w : Parts) → IsSetting (zeros_released lowers w).phase
zeros_setting lowers w = let v : releases.Work = releases.started_of (new_release w.fields) lowers w.counts in releasing_setting v.machine v.machine.at

tested_setting : (w : Parts) (v : Begun) → IsTested w v → IsSetting v.phase
tested_setting w v (IsTested.passes orange none is) = let u : frees.Work = frees.started_of (new_freeing w.fields) w.counts in subst (λ (c : Begun). IsSetting c.phase) (sym is) (freeing_setting u.machine u.machine.at)
tested_setting w v (IsTested.fails_delta s not last is) = subst (λ (c : Begun). IsSetting c.phase) (sym is) (zeros_setting true (record w { counts = s; sets = counted_by Touched w.sets }))
tested_setting w v (IsTested.fails_sigma s orange some last is) = subst (λ (c : Begun). IsSetting c.phase) (sym is) (zeros_setting true (record w { counts = s; sets = counted_by Held w.sets }))

relieved_setting : (w : Parts) (m : frees.Machine) (at : Option Member) → IsSetting (relieved_at w m at).phase
relieved_setting w m None = zeros_setting true w
relieved_setting w m (Some a) = tt

-- what follows a release or the freeing of a set, up to the next trial
clears_leave : (p q : Private) (turn : Turn) (x : ℕ) {b : Begun} → IsSetting b.phase → ClearsOn p q turn b → (tried_at q.epoch q.phase ≡ p.epoch → ⊥) → Leaves b.parts.counts q x 0
clears_leave p q turn x {b} has (ClearsOn.works phase at g) early = (same_spares b.parts.counts q.counts x (ap (λ (r : Private). r.counts) g.after), subst HasSets (sym (ap (λ (r : Private). r.phase) g.after)) (subst IsSetting at has))
clears_leave p q turn x {b} has (ClearsOn.tests v none some tested on) early = let more = clears_leave p q turn x (tested_setting b.parts v tested) on early in (spares_then (tested_spares b.parts v x tested) more.0, more.1)
clears_leave p q turn x has (ClearsOn.tries none empty due on) early = absurd (early (tries_late p q _ _ turn on))
clears_leave p q turn x has (ClearsOn.waits none empty off on) early = absurd (early (prepares_late p q _ _ turn on))

batched_spares : (p : Private) (x : ℕ) → IsAtRest (parts_of p) → AreAlike p.newer p.older → IsCovered p.counts p.newer p.older → Spares p.counts (applied p.policy.steady p.counts p.newer p.older) x (touches p.policy.steady x p.newer p.older)
batched_spares p x r alike c =
    let is : IsApplied p.policy.steady p.counts p.newer p.older (applied p.policy.steady p.counts p.newer p.older) = is_applied p.policy.steady p.counts p.newer p.older r.zeros alike c in
    record {
      each = λ number o.
          let b = batch_same is (none_released r) x o.1 in
          record {
            orange = (sym (is.rest.set x) ∙ o.0, ap (λ (v : Slot). v.colour) (sym b.0) ∙ o.1);
            lowered = 0;
            count = omega (arith, ap (λ (v : Slot). v.count) b.0);
            cyclic = omega (arith, ap (λ (v : Slot). v.cyclic) b.0);
            unnamed = b.1;
          };
    }

counts_started : (p : Private) → (sweeps.started_of p.counts).counts ≡ p.counts
unfolding sweeps.started_of
counts_started p = refl

module _ (p q : Private) (word x : ℕ) (turn : Turn) (k : IsMachine p) (same : tried_at q.epoch q.phase ≡ tried_at p.epoch p.phase) where
  -- in a collection that has still to make its trial, none begins
  early : (epoch : ℕ) → tried_at p.epoch p.phase + 1 ≡ epoch → tried_at q.epoch q.phase ≡ epoch → ⊥
  early epoch was late = omega (arith, was, late, same)

  trying_before : under_way p.phase ≡ 1 → tried_at p.epoch p.phase ≡ p.epoch - 1 → tried_at p.epoch p.phase + 1 ≡ p.epoch
  trying_before way was = omega (arith, k.collections, way, was)

  named_as : {phase : Phase} → p.phase ≡ phase → named_by p word x ≡ named_at p word x phase
  named_as e = ap (named_at p word x) e

  -- a step that names nothing and leaves the counts
  leaves : {s : State} {next : Phase} → q.counts ≡ s → s ≡ p.counts → q.phase ≡ next → HasSets next → named_by p word x ≡ 0 → Leaves p.counts q x (named_by p word x)
  leaves e f phase has none = (subst (Spares p.counts q.counts x) (sym none) (same_spares p.counts q.counts x (e ∙ f)), subst HasSets (sym phase) has)

  goes : {r : Private} {next : Phase} → GoesOn r q turn next → r.counts ≡ p.counts → HasSets next → named_by p word x ≡ 0 → Leaves p.counts q x (named_by p word x)
  goes g e has none = leaves (ap (λ (r : Private). r.counts) g.after) e (ap (λ (r : Private). r.phase) g.after) has none

  -- the sets are tested, after a move that names the slot so often
  clears : {r : Private} {b : Begun} {n : ℕ} → IsSetting b.phase → ClearsOn r q turn b → tried_at p.epoch p.phase + 1 ≡ r.epoch → Spares p.counts b.parts.counts x n → named_by p word x ≡ n → Leaves p.counts q x (named_by p word x)
  clears {r} {b} {n} has on was s e =
      let c = clears_leave r q turn x has on (early r.epoch was) in
      (subst (Spares p.counts q.counts x) (sym e) (spares_then s c.0), c.1)

  step_leaves : {box : Contents} {op : Option Op} → IsGiven p word → HasSets p.phase → Step p word box op q turn → Leaves p.counts q x (named_by p word x)
  unfolding IsGiven IsGivenAt sweeps.took_of
  step_leaves given has (Step.spent at last none is t) = leaves (ap (λ (r : Private). r.counts) is) refl (ap (λ (r : Private). r.phase) is) has (named_as at ∙ cond-true (is_spent p) 0 (named_behind p x (next_present p.left 0)) (eq-eqb (p.epoch + 1) (2 ^ 24) last))
  step_leaves given has (Step.request next at more is n g) = goes g refl tt (named_as at ∙ cond-false (is_spent p) 0 (named_behind p x (next_present p.left 0)) (ne_eqb (p.epoch + 1) (2 ^ 24) more) ∙ ap (named_behind p x) (next_is p.left 0 next n))
  step_leaves given has (Step.request_alone at more is gone on) =
      let w : Parts = record (parts_of p) { counts = applied p.policy.steady p.counts p.newer p.older } in
      clears (zeros_setting false w) on (ap (λ f. tried_at p.epoch f + 1) at) (spares_then (batched_spares p x (now_at p Idle k at).0 (rows_alike p k) (subst (IsGivenAt p word) at given gone)) (zeros_spares false w x))
      (named_as at ∙ cond-false (is_spent p) 0 (named_behind p x (next_present p.left 0)) (ne_eqb (p.epoch + 1) (2 ^ 24) more) ∙ ap (named_behind p x) (none_is p.left 0 gone))
  step_leaves given has (Step.wait t at other is kept answers) = leaves (ap (λ (r : Private). r.counts) kept) refl (ap (λ (r : Private). r.phase) kept) has (named_as at ∙ ap (named_looking p x t) other)
  step_leaves given has (Step.gather t at takes is g) = goes g refl tt (named_as at ∙ ap (named_looking p x t) takes)
  step_leaves given has (Step.cross_for t next at crosses is n g) = goes g refl tt (named_as at ∙ ap (named_looking p x t) crosses ∙ ap (named_behind (crossed_for p t) x) (next_is p.left t next n))
  step_leaves given has (Step.cross_for_last t at crosses is gone on) =
      let r : Private = crossed_for p t in
      let w : Parts = record (parts_of p) { counts = applied p.policy.steady p.counts r.newer p.older } in
      let a : IsAt p (Looking t) = now_at p (Looking t) k at in
      clears (zeros_setting false w) on (trying_before (ap under_way at) (ap (tried_at p.epoch) at))
      (spares_then (batched_spares r x a.rest (rows_alike r (crossed_keeps p t k at)) (subst (IsLookGiven p t) crosses (subst (IsGivenAt p word) at given) gone)) (zeros_spares false w x))
      (named_as at ∙ ap (named_looking p x t) crosses ∙ ap (named_behind r x) (none_is p.left t gone))
  step_leaves given has (Step.give_back t next at is n g) = goes g refl tt (named_as at ∙ ap (named_behind p x) (next_is (noted p t).left t next n))
  step_leaves given has (Step.apply t at is gone on) =
      let w : Parts = record (parts_of p) { counts = applied p.policy.steady p.counts p.newer p.older } in
      let a : IsAt p (Returning t) = now_at p (Returning t) k at in
      clears (zeros_setting false w) on (trying_before (ap under_way at) (ap (tried_at p.epoch) at))
      (spares_then (batched_spares p x a.rest (rows_alike p k) (subst (IsGivenAt p word) at given (gone_behind p.left t (buffer_at p.newer (t - 1)).last a.first gone))) (zeros_spares false w x))
      (named_as at ∙ ap (named_behind p x) (none_is (noted p t).left t gone))
  step_leaves given has (Step.release m at is on) =
      let now = now_at p (Releasing m) k at in
      let v : releases.Work = releases.took_of (record { machine = m; counts = p.counts }) word in
      clears (releasing_setting v.machine v.machine.at) on (trying_before (ap under_way at) (ap (tried_at p.epoch) at)) (released_spares m (parts_of p) word x now.clearing.busy now.clearing.apart (subst (IsGivenAt p word) at given)) (named_as at)
  step_leaves given has (Step.freeing m at is on) =
      let now = now_at p (Freeing m) k at in
      let v : frees.Work = frees.took_of (record { machine = m; counts = p.counts }) word in
      clears (relieved_setting (record (parts_of p) { counts = v.counts }) v.machine v.machine.at) on (trying_before (ap under_way at) (ap (tried_at p.epoch) at))
      (freed_spares m (parts_of p) word x now.clearing.busy now.clearing.apart (subst (IsGivenAt p word) at given)) (named_as at)
  step_leaves given has (Step.trial m at is on) = absurd (subst HasSets at has)
  step_leaves given has (Step.preparation m at is on) = absurd (subst HasSets at has)
  step_leaves given has (Step.begin_sweep at is g) = goes g (counts_started p) tt (named_as at)
  step_leaves given has (Step.sweep first swept u next at is took follows g) =
      let counts : q.counts ≡ u.counts = ap (λ (r : Private). r.counts) g.after in (
        subst (Spares p.counts q.counts x) (sym (named_as at)) (subst (λ t. Spares p.counts t x 0) (sym (counts ∙ ap (λ (v : sweeps.Work). v.counts) took)) (sweeps_spare first)),
        subst HasSets (sym (ap (λ (r : Private). r.phase) g.after)) (swept_has follows),
      )
    where
      sweeps_spare : (due : Option ℕ) → Spares p.counts (sweeps.took_at (record { due = first; counts = p.counts }) due).counts x 0
      sweeps_spare None = lowers_spares p.counts p.counts x (same_lowers p.counts p.counts (λ y. refl))
      sweeps_spare (Some z) = lowers_spares p.counts (sweeps.swept p.counts z) x (swept_lowers p.counts z)

      swept_has : IsNext swept u next → HasSets next
      swept_has (IsNext.more busy is) = subst HasSets (sym is) tt
      swept_has (IsNext.last done is) = subst HasSets (sym is) tt
  step_leaves given has (Step.end_sweep swept at is e) = leaves (ap (λ (r : Private). r.counts) e.after) refl (ap (λ (r : Private). r.phase) e.after) tt (named_as at)

-- what a step leaves of an orange member, up to the next trial
pub untouched : (p : Private) (word : ℕ) (box : Contents) (number x : ℕ) → IsMachine p → IsBetween p.phase → IsGiven p word → HasSets p.phase → tried_at (step_of p word box).epoch (step_of p word box).phase ≡ tried_at p.epoch p.phase
    → IsOrangeIn (step_of p word box).counts number x → WasUntouched p.counts (step_of p word box).counts number x (named_by p word x)
untouched p word box number x k between given has same o = (step_leaves p (step_of p word box) word x (turn_of p word) k same given has (step_made p word box k between given)).0.each number o

-- and sets
pub has_on : (p : Private) (word : ℕ) (box : Contents) → IsMachine p → IsBetween p.phase → IsGiven p word → HasSets p.phase → tried_at (step_of p word box).epoch (step_of p word box).phase ≡ tried_at p.epoch p.phase → HasSets (step_of p word box).phase
has_on p word box k between given has same = (step_leaves p (step_of p word box) word 0 (turn_of p word) k same given has (step_made p word box k between given)).1

-- A preparation took in a word: it goes on, or is done.
pub record LoadsOn (v : preps.Work) (q : Private) : Type 0 where
  pub counts : q.counts ≡ v.counts
  pub goes : (q.phase ≡ Preparing v.machine) ⊎ (HasSets q.phase × (v.machine.at ≡ None))

prepares_loads : (p q : Private) (w : Parts) (v : preps.Work) (turn : Turn) → PreparesOn p w v q turn → LoadsOn v q
prepares_loads p q w v turn (PreparesOn.more busy g) = record { counts = ap (λ (r : Private). r.counts) g.after; goes = inl (ap (λ (r : Private). r.phase) g.after) }
prepares_loads p q w v turn (PreparesOn.sweeps_next done some g) = record { counts = ap (λ (r : Private). r.counts) g.after; goes = inr (subst HasSets (sym (ap (λ (r : Private). r.phase) g.after)) tt, done) }
prepares_loads p q w v turn (PreparesOn.completes done none e) = record { counts = ap (λ (r : Private). r.counts) e.after; goes = inr (subst HasSets (sym (ap (λ (r : Private). r.phase) e.after)) tt, done) }

tries_loads : (p q : Private) (w : Parts) (v : trials.Work) (turn : Turn) (m : preps.Machine) → TriesOn p w v q turn → q.phase ≡ Preparing m → LoadsOn (prep_started (record w { counts = v.counts })) q
tries_loads p q w v turn m (TriesOn.more busy g) next = let e : Preparing m ≡ Trying v.machine = sym next ∙ ap (λ (r : Private). r.phase) g.after in absurd (cc)
tries_loads p q w v turn m (TriesOn.prepares over on) next = prepares_loads p q _ _ turn on

pub loads_on : (p : Private) (m : preps.Machine) (word : ℕ) (box : Contents) → IsMachine p → IsBetween p.phase → IsGiven p word → p.phase ≡ Preparing m → LoadsOn (preps.took_of (record { machine = m; counts = p.counts }) word) (step_of p word box)
unfolding step_of took_of took_at
loads_on p m word box k between given at =
    let v : preps.Work = preps.took_of (record { machine = m; counts = p.counts }) word in
    subst (LoadsOn v) (sym (ap (λ f. swapped_of (took_at p word f) box) at)) (prepares_loads p _ (parts_of p) v _ (prepared_on p (parts_of p) v box))

-- a trial took in its last word, and a preparation begins
pub begins_on : (p : Private) (m : trials.Machine) (prep : preps.Machine) (word : ℕ) (box : Contents) → IsMachine p → IsBetween p.phase → IsGiven p word → p.phase ≡ Trying m → (step_of p word box).phase ≡ Preparing prep
    → LoadsOn (prep_started (record (parts_of p) { counts = (trials.took_of (record { machine = m; counts = p.counts }) (visible p.counts word)).counts })) (step_of p word box)
unfolding step_of took_of took_at
begins_on p m prep word box k between given at next =
    let v : trials.Work = trials.took_of (record { machine = m; counts = p.counts }) (visible p.counts word) in
    let e : step_of p word box ≡ swapped_of (took_at p word (Trying m)) box = ap (λ f. swapped_of (took_at p word f) box) at in
    subst (LoadsOn (prep_started (record (parts_of p) { counts = v.counts }))) (sym e) (tries_loads p _ (parts_of p) v _ prep (tried_on p (parts_of p) v box) (ap (λ (q : Private). q.phase) (sym e) ∙ next))

-- what an orange member's outside count was, it is, less what was lowered
pub outside_later : {before s t : State} {loads : List Load} {number x n : ℕ} → IsOutside before s loads number x → WasUntouched s t number x n → IsOutside before t loads number x
outside_later i u = record { member = i.member; fewer = omega (arith, u.count, i.fewer); cyclic = omega (arith, u.count, u.cyclic, i.fewer, i.cyclic) }
