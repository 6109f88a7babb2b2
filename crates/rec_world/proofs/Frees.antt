-- The index of the free slots goes with the headers.
use Rattle.std.proofs.Common.{◌≡◌, ◌≢◌, inl, inr, ℕ, ◌<◌, ◌≤◌, ◌==◌, if◌then◌else◌, Bool, List, length, get_or, set, arith, sym, ap, ◌∙◌}
use Rattle.std.proofs.lemmas.Bool.{cases_eq, cases_lt, eq-eqb, ne_eqb}
use Rattle.std.proofs.lemmas.List.{get_or_default, get_or_past, get_or-set_same, get_or-set_other}
use Rattle.rec_index.specs.Sets.{bit}
use Rattle.rec_world.specs.Indexed.{Finds}

-- 1 for 0, else 0
abbrev zero_is : ℕ → ℕ
zero_is n = if n == 0 then 1 else 0

-- what is chosen by a test of a number that is 0, and of one that isn't
pub zero_chosen : (n : ℕ) → n ≡ 0 → zero_is n ≡ 1
zero_chosen n is = ap (λ (b : Bool). let k : ℕ = if b then 1 else 0 in k) (eq-eqb n 0 is)

pub some_chosen : (n : ℕ) → n ≢ 0 → zero_is n ≡ 0
some_chosen n isnt = ap (λ (b : Bool). let k : ℕ = if b then 1 else 0 in k) (ne_eqb n 0 isnt)

-- what was chosen where the number isn't 0, or is
chosen_none : (n : ℕ) → zero_is n ≡ 0 → n ≢ 0
chosen_none n none is = omega (arith, none, zero_chosen n is)

chosen_some : (n : ℕ) → zero_is n ≡ 1 → n ≡ 0
chosen_some n some = elim (cases_eq n 0) [
  | inl is ↦ is
  | inr isnt ↦ absurd (omega (arith, some, some_chosen n isnt))
]

module _ (headers index : List ℕ) (finds : Finds headers index) where
  -- a slot that is no member is taken
  pub absent_taken : (s : ℕ) → s < length headers → bit index s ≡ 0 → 0 < get_or headers s 0
  absent_taken s there none = omega (arith, get_or_default headers s 1 0 there, chosen_none (get_or headers s 1) (sym (finds s) ∙ none))

  -- a member is there
  pub member_there : (s : ℕ) → bit index s ≡ 1 → s < length headers
  member_there s some = elim (cases_lt s (length headers)) [
    | inl there ↦ there
    | inr past ↦ absurd (omega (arith, get_or_past headers s 1 past, chosen_some (get_or headers s 1) (sym (finds s) ∙ some)))
  ]

  -- a header was replaced, and its slot is a member now where the new one is 0
  pub finds_replaced : (after : List ℕ) (slot word member : ℕ) → slot < length headers → zero_is word ≡ member → ((s : ℕ) → bit after s ≡ (if s == slot then member else bit index s))
      → Finds (set headers slot word) after
  finds_replaced after slot word member there is now s = elim (cases_eq s slot) [
    | inl same ↦
        now s ∙ ap (λ (b : Bool). if b then member else bit index s) (eq-eqb s slot same) ∙ sym is
        ∙ ap zero_is (sym (ap (λ k. get_or (set headers slot word) k 1) same ∙ get_or-set_same headers slot word 1 there))
    | inr other ↦
        now s ∙ ap (λ (b : Bool). if b then member else bit index s) (ne_eqb s slot other) ∙ finds s
        ∙ ap zero_is (sym (get_or-set_other headers slot s word 1 other))
  ]

-- the index lists just the free slots below this one
pub record ListsUpTo (headers index : List ℕ) (slot : ℕ) : Type 0 where
  pub listed : (s : ℕ) → s < slot → bit index s ≡ zero_is (get_or headers s 1)
  pub others : (s : ℕ) → slot ≤ s → bit index s ≡ 0
