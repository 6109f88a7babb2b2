-- The slots of a heap, once round from one of them on.
use Rattle.std.proofs.Common.{◌≡◌, inl, inr, ℕ, ◌+◌, ◌-◌, ◌%◌, ◌<◌, ◌≤◌, sym, ap, subst, ◌∙◌, arith}
use Rattle.std.proofs.Math.Nat.{add-mod_right, mod-add-mod, mod-eq_of_lt, mod_self}
use Rattle.std.proofs.lemmas.Bool.{cases_lt}
use Rattle.std.proofs.lemmas.Nat.{mod_below}
use Rattle.rec_mutator.specs.Private.{slot_behind}

-- before the last slot is reached
pub behind_near : (slots from count : ℕ) → from + count < slots → slot_behind slots from count ≡ from + count
behind_near slots from count near = mod-eq_of_lt near

-- and after it
pub behind_round : (slots from count : ℕ) → slots ≤ from + count → from + count < slots + slots → slot_behind slots from count ≡ from + count - slots
behind_round slots from count past few =
    let rest : ℕ = from + count - slots in
    let below : rest < slots = omega arith in
    let both : from + count ≡ rest + slots = omega arith in
    ap (λ n. n % slots) both ∙ add-mod_right rest slots ∙ mod-eq_of_lt below

-- it is a slot of the heap
pub behind_below : (slots from count : ℕ) → 0 < slots → slot_behind slots from count < slots
behind_below slots from count some = mod_below (from + count) slots some

-- from the first slot on
pub behind_first : (slots count : ℕ) → count < slots → slot_behind slots 0 count ≡ count
behind_first slots count there =
    let same : 0 + count ≡ count = omega arith in
    ap (λ n. n % slots) same ∙ mod-eq_of_lt there

-- so many slots further on
pub behind_further : (slots from count more : ℕ) → slot_behind slots from count + more < slots → slot_behind slots from (count + more) ≡ slot_behind slots from count + more
behind_further slots from count more near =
    let same : from + (count + more) ≡ from + count + more = omega arith in
    ap (λ n. n % slots) same ∙ sym (mod-add-mod (from + count) slots more) ∙ mod-eq_of_lt near

-- and as the last slot is passed
pub behind_wraps : (slots from count more : ℕ) → slot_behind slots from count + more ≡ slots → slot_behind slots from (count + more) ≡ 0
behind_wraps slots from count more ends =
    let same : from + (count + more) ≡ from + count + more = omega arith in
    ap (λ n. n % slots) same ∙ sym (mod-add-mod (from + count) slots more) ∙ ap (λ n. n % slots) ends ∙ mod_self slots

-- Each slot of the heap is met once round, whichever the first one is.
pub all_round : (P : ℕ → Type 0) (slots from : ℕ) → from < slots → ((count : ℕ) → count < slots → P (slot_behind slots from count)) → (slot : ℕ) → slot < slots → P slot
all_round P slots from there met slot below = elim (cases_lt slot from) [
  | inl before ↦
      let count : ℕ = slot + slots - from in
      let is : slot_behind slots from count ≡ slot = let round : slot_behind slots from count ≡ from + count - slots = behind_round slots from count (omega arith) (omega arith) in omega (arith, round) in
      subst P is (met count (omega arith))
  | inr from_on ↦
      let count : ℕ = slot - from in
      let is : slot_behind slots from count ≡ slot = let near : slot_behind slots from count ≡ from + count = behind_near slots from count (omega arith) in omega (arith, near) in
      subst P is (met count (omega arith))
]
