-- Within reach: what a trial, a preparation and a sweep leave of it, in a heap at rest.
use Rattle.std.proofs.Common.{◌≡◌, ◌≢◌, inl, inr, ℕ, ◌+◌, ◌<◌, ◌==◌, nat_lt, true, Some, List, [], ◌∷◌, drop, length, slice_get, slice_index_or, slice_set, sum_by, refl, sym, ap, subst, ◌∙◌, arith}
use Rattle.std.proofs.lemmas.Bool.{cases_eq, false≢true, lt-ltb, ne_eqb}
use Rattle.std.proofs.lemmas.List.{get_or-set_same, get_or-set_other, length-set}
use Rattle.rec_core.proofs.Common.{State, slot_at, one, times, absent, swept_clean, Slot, times-nil, times-cons, one-same, named, Swept, swept, swept_if, Work, started_of, KeepsOthers, prep_started, put_off, with_offers, Parts, PreparesOn, TriesOn, Sweeping, Turn, still, Core, sight, IsKept, is_green}
use Rattle.rec_settle.specs.Resting.{holds, IsHeldIn, AreFound, AreWithinReach, SetsRest, Round, ComesTo}
use Rattle.rec_settle.specs.Settling.{IsReachable}
use Rattle.rec_trial.specs.Rules.{IsReady}
use Rattle.rec_trial.proofs.Keeps.{started_keeps}
use Rattle.rec_trial.proofs.Postponed.{postponed_keeps}
use Rattle.rec_sigma.specs.Prepare as preps
use Rattle.rec_sigma.proofs.Runs.{next_set_others}
use Rattle.rec_collector.specs.Private.{Private}
use Rattle.rec_collector.proofs.Offering.{where_keeps, where_ready}
use Rattle.rec_core.proofs.TurnCases.{header_freed}
use Rattle.rec_core.proofs.Landed.{HasLanded}
use Rattle.rec_settle.proofs.Rest.SettlingBetween.{unheld_swept}
use Rattle.rec_core.proofs.Sweeping.{swept_below, due_released}
use Rattle.rec_core.proofs.Turns.{now_at}
use Rattle.rec_core.proofs.Landings.{prep_others}

-- what releases nothing anew, and nothing less
pub within_same : (w : Core) (words : List ℕ) (s t : State) → ((x : ℕ) → (slot_at t x).released ≡ (slot_at s x).released) → AreWithinReach w words s → AreWithinReach w words t
within_same w words s t same within x unreleased = within x (sym (same x) ∙ unreleased)

-- a trial that begins
pub within_begun : {w : Core} {crossing words : List ℕ} {v : Parts} → HasLanded w crossing words (still v) → IsReady v.counts → AreWithinReach w words v.counts → AreWithinReach w words (started_of v.fields (with_offers v).counts).counts
within_begun {w} {crossing} {words} {v} l ready within =
    let same : v.fields ≡ w.config.fields = l.fields in
    let wide : 0 < v.fields = omega (arith, l.kept.config.some_fields, same) in
    let offered = where_keeps v.offers v.counts in
    let keeps = started_keeps v.fields (with_offers v).counts wide (where_ready v.offers v.counts ready) in
    within_same w words v.counts (started_of v.fields (with_offers v).counts).counts (λ x. keeps.released x ∙ offered.rest.released x) within

-- whatever follows a preparation,
pub within_prepares : {w : Core} {words : List ℕ} {u : Parts} {v : preps.Work} {q : Private} {turn : Turn} → AreWithinReach w words v.counts → PreparesOn w.collector u v q turn → ComesTo Round.Second w words q
within_prepares within (PreparesOn.more some g) = rw (g.after) (ComesTo.goes_on refl within)
within_prepares within (PreparesOn.sweeps_next none some g) = rw (g.after) (ComesTo.goes_on refl within)
within_prepares within (PreparesOn.completes none empty e) = rw (e.after) (ComesTo.completes refl refl within)

-- a postponed trial
pub within_waits : {w : Core} {crossing words : List ℕ} {v : Parts} {q : Private} {turn : Turn} → HasLanded w crossing words (still v) → IsReady v.counts → AreWithinReach w words v.counts → PreparesOn w.collector (put_off v) (prep_started (put_off v)) q turn → ComesTo Round.Second w words q
within_waits {w} {crossing} {words} {v} l ready within on =
    let keeps = postponed_keeps v.counts l.counts ready in
    within_prepares (within_same w words v.counts (prep_started (put_off v)).counts (λ x. ap (λ (y : Slot). y.released) ((prep_others (put_off v)).slots x) ∙ keeps.released x) within) on

-- and a trial
pub within_tries : {w : Core} {words : List ℕ} {u : Parts} {v : Work} {q : Private} {turn : Turn} → AreWithinReach w words v.counts → TriesOn w.collector u v q turn → ComesTo Round.Second w words q
within_tries within (TriesOn.more some g) = rw (g.after) (ComesTo.goes_on refl within)
within_tries {w} {words} {u} {v} within (TriesOn.prepares none on) =
    let its : Parts = record u { counts = v.counts } in
    within_prepares (within_same w words v.counts (prep_started its).counts (λ x. ap (λ (y : Slot). y.released) ((prep_others its).slots x)) within) on

-- A released slot is swept: then it is free, and any other slot is as it was.
module _ (w : Core) (n slot : ℕ) (kept : IsKept true w) (phase : w.collector.phase ≡ Sweeping (Some slot) n) where
  abbrev s : State
  s = w.collector.counts

  abbrev after : Core
  after = header_freed w slot

  below : slot < w.config.slots
  below = swept_below w n slot kept phase

  released : (slot_at s slot).released ≡ true
  released = due_released w n slot kept phase

  others : (x : ℕ) → x ≢ slot → slot_at (swept s slot) x ≡ slot_at s x
  others x other = get_or-set_other s.slots slot x (swept_clean (slot_at s slot)) absent other

  own : slot_at (swept s slot) slot ≡ swept_clean (slot_at s slot)
  own = get_or-set_same s.slots slot (swept_clean (slot_at s slot)) absent (let slots : length s.slots ≡ w.config.slots = kept.collector.slots in omega (arith, below, slots))

  -- the slot is held then, as a free one
  header_free : slice_index_or (slice_set w.headers slot 0) slot 1 ≡ 0
  header_free = get_or-set_same w.headers slot 0 1 (let headers : length w.headers ≡ w.config.slots = kept.headers in omega (arith, below, headers))

  free_held : 0 < holds (sight after) slot
  free_held = omega (arith, ap (λ k. one (k == 0)) header_free)

  -- and what was held is
  holds_other : (x : ℕ) → x ≢ slot → holds (sight after) x ≡ holds (sight w) x
  holds_other x other = ap (λ k. sum_by (named x) (sight w).registers + one (k == 0)) (get_or-set_other w.headers slot x 0 1 other)

  still_held : (x : ℕ) → IsHeldIn w w.words x → IsHeldIn after w.words x
  still_held x (IsReachable.held some) = elim (cases_eq x slot) [
    | inl same ↦ IsReachable.held (subst (λ k. 0 < holds (sight after) k) (sym same) free_held)
    | inr other ↦ IsReachable.held (omega (arith, some, holds_other x other))
  ]
  still_held x (IsReachable.along from field within leads) = IsReachable.along (still_held _ from) field within leads

  pub within_swept : AreWithinReach w w.words s → AreWithinReach after w.words (swept s slot)
  within_swept within x unreleased not_held = elim (cases_eq x slot) [
    | inl same ↦ not_held (subst (IsHeldIn after w.words) (sym same) (IsReachable.held free_held))
    | inr other ↦ within x (sym (ap (λ (v : Slot). v.released) (others x other)) ∙ unreleased) (λ held. not_held (still_held x held))
  ]

  found_swept : AreFound w w.words s → AreFound after w.words (swept s slot)
  found_swept found x unreleased other_colour no_set not_held = elim (cases_eq x slot) [
    | inl same ↦ not_held (subst (IsHeldIn after w.words) (sym same) (IsReachable.held free_held))
    | inr other ↦ found x (sym (ap (λ (v : Slot). v.released) (others x other)) ∙ unreleased) (sym (ap (λ (v : Slot). is_green v.colour) (others x other)) ∙ other_colour) (sym (ap (λ (v : Slot). v.set) (others x other)) ∙ no_set) (λ held. not_held (still_held x held))
  ]

  -- the one slot that is swept
  once : Swept s (swept s slot) (slot ∷ [])
  once = record {
    free = first s.free (sym (now_at w (Sweeping (Some slot) n) kept phase).2);
    slots = λ x. elim (cases_eq x slot) [
      | inl same ↦
          let some : 0 < times x (slot ∷ []) = omega (arith, ap (λ k. times k (slot ∷ [])) same, times-cons slot slot [], one-same slot) in
          ap (λ k. slot_at (swept s slot) k) same ∙ own ∙ ap (λ k. swept_clean (slot_at s k)) (sym same) ∙ ap (λ b. swept_if b (slot_at s x)) (sym (lt-ltb 0 (times x (slot ∷ [])) some))
      | inr other ↦ others x other ∙ ap (λ m. swept_if (nat_lt 0 m) (slot_at s x)) (sym (not_it x other))
    ];
    many = length-set s.slots slot (swept_clean (slot_at s slot));
    roots = refl;
    sets = refl;
    marked = refl;
    work = refl;
    zeros = refl;
  }
    where
      first : (xs : List ℕ) → slice_get xs 0 ≡ Some slot → xs ≡ slot ∷ drop 1 xs
      first [] none = cc
      first (x ∷ xs) is = cc

      not_it : (x : ℕ) → x ≢ slot → times x (slot ∷ []) ≡ 0
      not_it x other = omega (arith, times-cons x slot [], ap one (ne_eqb x slot other), times-nil x)

  pub sets_swept : SetsRest w w.words [] s → SetsRest after w.words [] (swept s slot)
  sets_swept r = record {
    unheld = unheld_swept w.config.fields w.words s (swept s slot) (slot ∷ []) once (λ x there. dead x there) r.unheld;
    found = found_swept r.found;
    unnamed = λ x i in_set. elim (cases_eq x slot) [
      | inl same ↦
          let was : (slot_at s slot).set ≡ Some i = sym (ap (λ (v : Slot). v.set) own) ∙ subst (λ k. (slot_at (swept s slot) k).set ≡ Some i) same in_set in
          absurd (false≢true (sym (r.unheld.back.unreleased slot i was) ∙ released))
      | inr other ↦ holds_other x other ∙ r.unnamed x i (sym (ap (λ (v : Slot). v.set) (others x other)) ∙ in_set)
    ];
  }
    where
      dead : (x : ℕ) → 0 < times x (slot ∷ []) → (slot_at s x).released ≡ true
      dead x there = elim (cases_eq x slot) [
        | inl same ↦ subst (λ k. (slot_at s k).released ≡ true) (sym same) released
        | inr other ↦ absurd (omega (arith, there, times-cons x slot [], ap one (ne_eqb x slot other), times-nil x))
      ]
