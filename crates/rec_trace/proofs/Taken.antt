-- The taken slots in a list, and a trace of a settled heap: the two have the same slots, each once.
use Rattle.std.proofs.Common.{◌≡◌, ◌↔◌, ℕ, zero, suc, ◌+◌, ◌-◌, ◌<◌, ◌≤◌, nat_lt, true, false, if◌then◌else◌, List, [], ◌∷◌, inl, inr, length, cond, get_or, refl, sym, subst, arith}
use Rattle.std.specs.List.{count_by}
use Rattle.std.proofs.lemmas.Bool.{cases_Bool, false≢true, ltb-true, lt-ltb}
use Rattle.std.proofs.lemmas.List.Sums.{sum_by-cons}
use Rattle.rec_model.specs.Heap.{roots}
use Rattle.rec_model.specs.Numbering.{IsDistinct}
use Rattle.rec_model.specs.Reach.{is_in}
use Rattle.rec_model.specs.Sight.{IsTaken, NumbersSlots, Reaches, targets_of}
use Rattle.rec_model.proofs.Members.{distinct_within, is_in-cons, is_in-head, is_in-tail}
use Rattle.rec_model.proofs.Numbered.{lists_reached, numbering_distinct}
use Rattle.rec_core.specs.Core.{Core, sight}
use Rattle.rec_core.specs.Settled.{IsSettled}
use Rattle.rec_settle.specs.Collecting.{taken_slots}

-- the slots whose headers aren't 0, in order, where the first header is that of this slot
abbrev taken_from : ℕ → (headers : List ℕ) → List ℕ
taken_from slot [] = []
taken_from slot (header ∷ headers) = if nat_lt 0 header then slot ∷ taken_from (slot + 1) headers else taken_from (slot + 1) headers

-- there are as many as headers that aren't 0
how_many : (slot : ℕ) (headers : List ℕ) → length (taken_from slot headers) ≡ count_by (λ header. nat_lt 0 header) headers
how_many slot [] = refl
how_many slot (header ∷ headers) =
    let rest : length (taken_from (slot + 1) headers) ≡ count_by (λ header. nat_lt 0 header) headers = how_many (slot + 1) headers in
    let more : count_by (λ header. nat_lt 0 header) (header ∷ headers) ≡ cond (nat_lt 0 header) 1 0 + count_by (λ header. nat_lt 0 header) headers = sum_by-cons (λ header. cond (nat_lt 0 header) 1 0) header headers in
    elim (cases_Bool (nat_lt 0 header)) [
      | inl taken ↦ rw (more, taken) (omega (arith, rest))
      | inr free ↦ rw (more, free) (omega (arith, rest))
    ]

-- each has such a header
has_header : (slot : ℕ) (headers : List ℕ) (n : ℕ) → is_in n (taken_from slot headers) ≡ true → (slot ≤ n) × (0 < get_or headers (n - slot) 0)
has_header slot [] n there = absurd (false≢true there)
has_header slot (header ∷ headers) n there = elim (cases_Bool (nat_lt 0 header)) [
  | inl taken ↦ elim (is_in-cons n slot (taken_from (slot + 1) headers) (rw taken at there)) [
    | inl same ↦
        let at : n - slot ≡ 0 = omega (arith, same) in
        (omega (arith, same), subst (λ i. 0 < get_or (header ∷ headers) i 0) (sym at) (ltb-true 0 header taken))
    | inr later ↦ further (has_header (slot + 1) headers n later)
  ]
  | inr free ↦ further (has_header (slot + 1) headers n (rw free at there))
]
  where
    further : (slot + 1 ≤ n) × (0 < get_or headers (n - (slot + 1)) 0) → (slot ≤ n) × (0 < get_or (header ∷ headers) (n - slot) 0)
    further (from, taken) =
        let at : n - slot ≡ suc (n - (slot + 1)) = omega (arith, from) in
        (omega (arith, from), subst (λ i. 0 < get_or (header ∷ headers) i 0) (sym at) taken)

-- and each with such a header is one of them
is_taken : (slot : ℕ) (headers : List ℕ) (i : ℕ) → 0 < get_or headers i 0 → is_in (slot + i) (taken_from slot headers) ≡ true
is_taken slot [] i taken = absurd (omega (arith, taken))
is_taken slot (header ∷ headers) zero taken =
    let at : slot + 0 ≡ slot = omega arith in
    subst (λ n. is_in n (taken_from slot (header ∷ headers)) ≡ true) (sym at) (rw (lt-ltb 0 header taken) (is_in-head slot (taken_from (slot + 1) headers)))
is_taken slot (header ∷ headers) (suc i) taken =
    let at : slot + 1 + i ≡ slot + suc i = omega arith in
    let later : is_in (slot + suc i) (taken_from (slot + 1) headers) ≡ true = subst (λ n. is_in n (taken_from (slot + 1) headers) ≡ true) at (is_taken (slot + 1) headers i taken) in
    elim (cases_Bool (nat_lt 0 header)) [
      | inl some ↦ rw some (is_in-tail (slot + suc i) slot (taken_from (slot + 1) headers) later)
      | inr free ↦ rw free later
    ]

-- each stands there once
are_distinct : (slot : ℕ) (headers : List ℕ) → IsDistinct (taken_from slot headers)
are_distinct slot [] = tt
are_distinct slot (header ∷ headers) = elim (cases_Bool (nat_lt 0 header)) [
  | inl taken ↦ rw taken (first, are_distinct (slot + 1) headers)
  | inr free ↦ rw free (are_distinct (slot + 1) headers)
]
  where
    first : is_in slot (taken_from (slot + 1) headers) ≡ false
    first = elim (cases_Bool (is_in slot (taken_from (slot + 1) headers))) [
      | inl there ↦ absurd (omega (arith, (has_header (slot + 1) headers slot there).0))
      | inr none ↦ none
    ]

module _ (w : Core) (slots : List ℕ) (settled : IsSettled w) (numbers : NumbersSlots (sight w) slots) where
  lists : (slot : ℕ) → Reaches (sight w) slot ↔ (is_in slot slots ≡ true)
  lists = lists_reached (roots (sight w).registers) (targets_of (sight w)) slots numbers

  -- just the slots of a trace are taken
  pub traced_taken : (slot : ℕ) → IsTaken (sight w) slot ↔ (is_in slot slots ≡ true)
  traced_taken slot = (λ taken. (lists slot).0 ((settled.collected slot).0 taken), λ there. (settled.collected slot).1 ((lists slot).1 there))

  -- so there are as many
  pub traced_many : length slots ≡ taken_slots w
  traced_many =
      let all : List ℕ = taken_from 0 w.headers in
      let most : length slots ≤ length all = distinct_within slots all (numbering_distinct (roots (sight w).registers) (targets_of (sight w)) slots numbers) (λ n there. let at : 0 + n ≡ n = omega arith in subst (λ m. is_in m all ≡ true) at (is_taken 0 w.headers n ((traced_taken n).1 there))) in
      let least : length all ≤ length slots = distinct_within all slots (are_distinct 0 w.headers) (λ n there. let at : n - 0 ≡ n = omega arith in (traced_taken n).0 (subst (λ i. 0 < get_or w.headers i 0) at (has_header 0 w.headers n there).1)) in
      let many = how_many 0 w.headers in
      omega (arith, most, least, many)
