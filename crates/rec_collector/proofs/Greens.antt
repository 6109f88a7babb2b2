-- A slot becomes Green only by a batch: no other move makes one Green.
use Rattle.std.proofs.Common.{◌≡◌, inl, inr, ℕ, ◌-◌, Bool, true, false, List, ◌∷◌, length, refl, sym, ap, ◌∙◌, arith}
use Rattle.std.proofs.lemmas.Bool.{cases_lt, false≢true}
use Rattle.rec_collector.proofs.Common.{Slot, Green, State, slot_at, with_slot, times, is_in, unbuffered_if, dead_if, given_up, without_first, written, refurbished, LastRefurbished}
use Rattle.rec_counts.specs.declared.colour.Colour.{Colour}
use Rattle.rec_counts.specs.Colour.{in_use, is_green}
use Rattle.rec_counts.specs.Groups.{last_set}
use Rattle.rec_release.proofs.Giving.{given_slot}
use Rattle.rec_sigma.specs.Prepared.{KeepsOthers}
use Rattle.rec_sigma.specs.declared.fate.Fate.{Fate}
use Rattle.rec_sigma.specs.declared.fate.Fate.TheVariants as fates

-- no slot becomes Green
abbrev pub KeepsGreens : (s t : State) → Type 0
KeepsGreens s t = (x : ℕ) → is_green (slot_at t x).colour ≡ true → is_green (slot_at s x).colour ≡ true

-- one slot is written
written_greens : (s : State) (y : ℕ) (v : Slot) → (is_green v.colour ≡ true → is_green (slot_at s y).colour ≡ true) → KeepsGreens s (with_slot s y v)
written_greens s y v h x g = elim (written s y v x) [
  | inl q ↦ ap (λ z. is_green (slot_at s z).colour) q.0 ∙ h (ap (λ (w : Slot). is_green w.colour) (sym q.1) ∙ g)
  | inr q ↦ ap (λ (w : Slot). is_green w.colour) (sym q) ∙ g
]

in_use_green : (c : Colour) → is_green (in_use c) ≡ true → is_green c ≡ true
in_use_green Green g = refl
in_use_green _ g = absurd (false≢true g)

-- the first of the zeros is released
pub first_greens : (s : State) (z : ℕ) (zs : List ℕ) → KeepsGreens s (without_first (z ∷ zs) s)
first_greens s z zs = written_greens s z (record (slot_at s z) { released = true }) (λ g. g)

-- the last set is given up
dead_green : (b : Bool) (v : Slot) → is_green (dead_if b (unbuffered_if b v)).colour ≡ true → is_green v.colour ≡ true
dead_green true v g = absurd (false≢true g)
dead_green false v g = g

pub given_greens : (s : State) → KeepsGreens s (given_up s)
given_greens s x g = dead_green (is_in (length s.sets - 1) (slot_at s x).set) (slot_at s x) (ap (λ (v : Slot). is_green v.colour) (sym (given_slot s x)) ∙ g)

-- or refurbished
fate_green : (f : Fate) (v : Slot) → is_green (refurbished f v).colour ≡ true → is_green v.colour ≡ true
fate_green fates.Free v g = g
fate_green fates.Root v g = absurd (false≢true g)
fate_green _ v g = in_use_green v.colour g

pub refurbished_greens : (s t : State) → LastRefurbished s t → KeepsGreens s t
refurbished_greens s t r x g = elim (cases_lt 0 (times x (last_set s.sets))) [
  | inl m ↦ fate_green _ (slot_at s x) (ap (λ (v : Slot). is_green v.colour) (sym (r.inside x m)) ∙ g)
  | inr m ↦ ap (λ (v : Slot). is_green v.colour) (sym (r.others x (omega (arith, m)))) ∙ g
]

-- preparation changes no colour
pub others_greens : (s t : State) → KeepsOthers s t → KeepsGreens s t
others_greens s t o x g = ap (λ (v : Slot). is_green v.colour) (sym (o.slots x)) ∙ g
