-- A set that is refused with all its members Orange hides nothing: its first member is a candidate root again or a zero, and the others
-- hang on it within the set, or are pending.
use Rattle.std.proofs.Common.{◌≡◌, inl, inr, ℕ, ◌-◌, ◌<◌, ◌==◌, cond, true, false, Bool, Some, List, filter, length, slice_get, refl, sym, ap, ◌∙◌, arith}
use Rattle.std.specs.List.{concat}
use Rattle.std.proofs.lemmas.Bool.{cases_lt, eq-eqb}
use Rattle.rec_core.proofs.Common.{is_green, State, slot_at, times, times-append, Slot, Sight, IsApart}
use Rattle.rec_counts.specs.declared.colour.Colour.{Colour}
use Rattle.rec_counts.specs.declared.colour.Colour.TheVariants.{Orange}
use Rattle.rec_counts.specs.Colour.{in_use, is_purple}
use Rattle.rec_counts.specs.Groups.{earlier_sets, last_set}
use Rattle.rec_counts.proofs.ToldSlots.{times-filter}
use Rattle.rec_sigma.specs.Judged.{AreOrange}
use Rattle.rec_sigma.specs.Refurbish.{fate_at, fate_if, is_root, is_rooted, is_zero, LastRefurbished, refurbished}
use Rattle.rec_sigma.specs.declared.fate.Fate.{Fate}
use Rattle.rec_sigma.specs.declared.fate.Fate.TheVariants as fates
use Rattle.rec_trial.proofs.Views.{concat_last}
use Rattle.rec_word.specs.Word.{is_slot}
use Rattle.rec_prompt.specs.Cover.{Covers, Hangs, IsListed}
use Rattle.rec_prompt.specs.Cover.Hangs.{later, listed, behind}
use Rattle.rec_prompt.proofs.Backing.{AreBacked, Within}
use Rattle.rec_prompt.proofs.Hanging.{carried, IsHung, LeadersCount}

-- what is released stays so
pub spared_gone : (s t : State) → LastRefurbished s t → (x : ℕ) → (slot_at s x).released ≡ true → (slot_at t x).released ≡ true
spared_gone s t r x gone = elim (cases_lt 0 (times x (last_set s.sets))) [
  | inr none ↦ ap (λ (v : Slot). v.released) (r.others x (omega (arith, none))) ∙ gone
  | inl member ↦ ap (λ (v : Slot). v.released) (r.inside x member) ∙ kept (fate_at s (slice_get (last_set s.sets) 0) x) (slot_at s x) ∙ gone
]
  where
    kept : (f : Fate) (v : Slot) → (refurbished f v).released ≡ v.released
    kept fates.Free v = refl
    kept fates.Zero v = refl
    kept fates.Root v = refl
    kept fates.Plain v = refl

module _ (w : Sight) (pending : ℕ → Type 0) (s t : State) (apart : IsApart s) (r : LastRefurbished s t) (orange : AreOrange s (length s.sets - 1)) where
  abbrev members : List ℕ
  members = last_set s.sets

  abbrev fate : ℕ → Fate
  fate = fate_at s (slice_get members 0)

  -- which are Green stays
  spared_greens : (x : ℕ) → is_green (slot_at t x).colour ≡ is_green (slot_at s x).colour
  spared_greens x = elim (cases_lt 0 (times x members)) [
    | inr none ↦ ap (λ (v : Slot). is_green v.colour) (r.others x (omega (arith, none)))
    | inl member ↦ ap (λ (v : Slot). is_green v.colour) (r.inside x member) ∙ plain (fate x) (slot_at s x) (orange x member)
  ]
    where
      plain : (f : Fate) (v : Slot) → v.colour ≡ Orange → is_green (refurbished f v).colour ≡ is_green v.colour
      plain fates.Free v is = refl
      plain fates.Zero v is = ap (λ c. is_green (in_use c)) is ∙ sym (ap is_green is)
      plain fates.Root v is = sym (ap is_green is)
      plain fates.Plain v is = ap (λ c. is_green (in_use c)) is ∙ sym (ap is_green is)

  -- what leads somewhere has to hang on something still
  pub spared_leaders : LeadersCount w s → LeadersCount w t
  spared_leaders alive from slot leads = let there = alive from slot leads in (there.0, spared_greens from ∙ there.1)

  -- the first member is a candidate root, or a zero
  first_listed : (x : ℕ) → 0 < times x members → slice_get members 0 ≡ Some x → IsListed t x
  first_listed x member is = go (slot_at s x).released ((slot_at s x).count == 0) (apart x (orange x member)).unreleased refl
    where
      rooted : is_root (is_slot x (slice_get members 0)) (slot_at s x).colour ≡ true
      rooted = ap (λ (c : Colour). is_root (is_slot x (slice_get members 0)) c) (orange x member) ∙ ap (is_slot x) is ∙ eq-eqb x x refl

      at : (b none : Bool) → (slot_at s x).released ≡ b → ((slot_at s x).count == 0) ≡ none → fate x ≡ fate_if b none true
      at b none released count = ap (λ k. fate_if k ((slot_at s x).count == 0) (is_root (is_slot x (slice_get members 0)) (slot_at s x).colour)) released ∙ ap (λ k. fate_if b k (is_root (is_slot x (slice_get members 0)) (slot_at s x).colour)) count ∙ ap (fate_if b none) rooted

      go : (b none : Bool) → (slot_at s x).released ≡ false → ((slot_at s x).count == 0) ≡ none → IsListed t x
      go b true released count =
          let zero_ : is_zero (fate x) ≡ true = ap is_zero (at false true released count) in
          IsListed.zero (omega (arith, member, ap (times x) r.zeros, times-append x s.zeros (filter (λ y. is_zero (fate y)) members), times-filter x (λ y. is_zero (fate y)) members, ap (λ k. cond k (times x members) 0) zero_))
      go b false released count =
          let root : is_rooted (fate x) ≡ true = ap is_rooted (at false false released count) in
          IsListed.root (omega (arith, member, ap (times x) r.roots, times-append x s.roots (filter (λ y. is_rooted (fate y)) members), times-filter x (λ y. is_rooted (fate y)) members, ap (λ k. cond k (times x members) 0) root))
          (ap (λ (v : Slot). is_purple v.colour) (r.inside x member) ∙ ap (λ (f : Fate). is_purple (refurbished f (slot_at s x)).colour) (at false false released count))

  -- so each member hangs on something
  within_hangs : (x : ℕ) → 0 < times x members → Within w pending members x → Hangs w pending t x
  within_hangs x member (Within.first is) = listed (first_listed x member is)
  within_hangs x member (Within.late is) = later is
  within_hangs x member (Within.behind {from = from} path there leads) = behind (within_hangs from there path) leads

  module _ (backed : AreBacked w pending s) where
    list_hung : (x : ℕ) → IsListed s x → IsHung w pending t x
    list_hung x is there plain = elim (cases_lt 0 (times x members)) [
      | inl member ↦ within_hangs x member (backed (length s.sets - 1) orange x member)
      | inr none ↦ listed (still (omega (arith, none)) is)
    ]
      where
        still : times x members ≡ 0 → IsListed s x → IsListed t x
        still none (IsListed.released gone) = IsListed.released (ap (λ (v : Slot). v.released) (r.others x none) ∙ gone)
        still none (IsListed.zero some) = IsListed.zero (omega (arith, some, ap (times x) r.zeros, times-append x s.zeros (filter (λ y. is_zero (fate y)) members)))
        still none (IsListed.root some purple) = IsListed.root (omega (arith, some, ap (times x) r.roots, times-append x s.roots (filter (λ y. is_rooted (fate y)) members))) (ap (λ (v : Slot). is_purple v.colour) (r.others x none) ∙ purple)
        still none (IsListed.member some) = IsListed.member (omega (arith, some, none, ap (times x) (concat_last s.sets), times-append x (concat (earlier_sets s.sets)) members, ap (λ (xss : List (List ℕ)). times x (concat xss)) r.sets))
        still none (IsListed.marked some) = IsListed.marked (omega (arith, some, ap (times x) r.marked))

    pub spared_covers : LeadersCount w s → Covers w pending s → Covers w pending t
    spared_covers alive c slot taken plain = carried w w pending pending s t (spared_leaders alive) (λ x is there plain_. later is) list_hung (λ m n leads. inl leads) slot (c slot taken (sym (spared_greens slot) ∙ plain)) taken plain
