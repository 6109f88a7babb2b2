-- Each word that comes out is a field of a released slot, and each is exchanged once: so there are no more of them than fields.
use Rattle.std.proofs.Common.{◌≡◌, ℕ, ◌+◌, ◌-◌, ◌*◌, ◌<◌, ◌≤◌, true, false, eqb, leb, Option, None, Some, List, [], ◌∷◌, length, slice_get, arith, ◌∙◌, ap, inl, inr}
use Rattle.std.proofs.Math.Nat.{mul-le-mul_left}
use Rattle.std.proofs.lemmas.List.{get_or_past}
use Rattle.std.proofs.lemmas.Bool.{cases_lt, le-leb, lt-leb, lt-ltb}
use Rattle.std.proofs.lemmas.Bool.Decides.{eqb_tells}
use Rattle.rec_collector.proofs.Common.{Slot, State, IsKept, slot_at, with_slot, one, times, EachOnce, absent, length-once, one-le, times-cons, times-nil, without_first, IsReady, fields_left, freeing_left, HasExchanged, Parts, Phase}
use Rattle.rec_counts.proofs.Front.{first_and_rest}
use Rattle.rec_word.specs.Walk.{first_member}
use Rattle.rec_release.proofs.Keeping.{first_zero, first_length, released_first, released_same, FirstZero}
use Rattle.rec_collector.proofs.Goings.{with_counts}

-- no more fields were exchanged than there are
pub exchanged_few : {phase : Option Phase} (w : Parts) (n : ℕ) → IsKept w.counts → HasExchanged w phase n → n ≤ length w.counts.slots * w.fields
exchanged_few w n k h =
    let once : EachOnce (length w.counts.slots) h.gone = λ x. elim (cases_lt x (length w.counts.slots)) [
      | inl l ↦ omega (arith, ap one (lt-ltb x (length w.counts.slots) l), h.are x, one-le (slot_at w.counts x).released)
      | inr l ↦ omega (arith, ap one (le-leb (length w.counts.slots) x l), h.are x, one-le (slot_at w.counts x).released)
    ] in
    omega (arith, h.few, mul-le-mul_left w.fields (length-once (length w.counts.slots) h.gone once))

-- the same slots are released, as many as there were, and no more fields are left
pub exchanged_as : {phase next : Option Phase} (w : Parts) (s : State) (n m : ℕ) → length s.slots ≡ length w.counts.slots → ((x : ℕ) → (slot_at s x).released ≡ (slot_at w.counts x).released) →
    m + fields_left (with_counts w s) next ≤ n + fields_left w phase → HasExchanged w phase n → HasExchanged (with_counts w s) next m
exchanged_as w s n m many released left h = record {
  gone = h.gone;
  are = λ x. omega (arith, h.are x, ap one (released x), ap (λ k. one (leb k x)) many);
  few = omega (arith, left, h.few);
}

-- the next of the zeros is released
pub first_are : (z : ℕ) (zs : List ℕ) (s : State) (gone : List ℕ) → s.zeros ≡ z ∷ zs → IsReady s → ((x : ℕ) → times x gone + one (leb (length s.slots) x) ≡ one (slot_at s x).released) →
    (x : ℕ) → times x (z ∷ gone) + one (leb (length (without_first (z ∷ zs) s).slots) x) ≡ one (slot_at (without_first (z ∷ zs) s) x).released
first_are z zs s gone e r are x =
    let first : FirstZero s z zs = first_zero s z zs e r in
    let v : Slot = record (slot_at s z) { released = true } in
    let many : one (leb (length (without_first (z ∷ zs) s).slots) x) ≡ one (leb (length s.slots) x) = ap (λ k. one (leb k x)) (first_length (z ∷ zs) s) in
    elim (eqb_tells x z) [
      | inl q ↦
          let n : one (eqb x z) ≡ 1 = ap one q.0 in
          let then : one (slot_at s x).released ≡ 0 = ap (λ y. one (slot_at s y).released) q.1 ∙ ap one first.unreleased in
          let now : one (slot_at (with_slot s z v) x).released ≡ 1 = ap (λ y. one (slot_at (with_slot s z v) y).released) q.1 ∙ ap one (released_first s z first.in_range) in
          omega (arith, n, then, now, are x, many, times-cons x z gone)
      | inr q ↦
          let n : one (eqb x z) ≡ 0 = ap one q.0 in
          omega (arith, n, ap one (released_same s z x q.1), are x, many, times-cons x z gone)
    ]

-- as a set is given up, all fields of its members are left
pub members_left : (fields : ℕ) (members work : List ℕ) (first : Option ℕ) → slice_get members 0 ≡ first → work ≡ members → freeing_left fields work (first_member first) ≤ length members * fields
members_left fields members work None e f = omega arith
members_left fields members work (Some x) e f =
    let n : length members ≡ length work - 1 + 1 = omega (arith, ap length (first_and_rest members x e), ap length f) in
    omega (arith, ap (λ k. k * fields) n)

-- where no slot is released, none was exchanged
pub none_exchanged : (w : Parts) → ((x : ℕ) → x < length w.counts.slots → (slot_at w.counts x).released ≡ false) → HasExchanged w None 0
none_exchanged w none = record {
  gone = [];
  are = λ x. elim (cases_lt x (length w.counts.slots)) [
    | inl l ↦ omega (arith, times-nil x, ap one (none x l), ap one (lt-leb (length w.counts.slots) x l))
    | inr l ↦ omega (arith, times-nil x, ap one (le-leb (length w.counts.slots) x l), ap (λ (v : Slot). one v.released) (get_or_past w.counts.slots x absent l))
  ];
  few = omega arith;
}
