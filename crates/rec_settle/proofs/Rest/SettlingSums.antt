-- Sums over some slots' fields as sums over all words of a heap.
use Rattle.std.proofs.Common.{◌≡◌, inl, inr, ℕ, zero, suc, ◌+◌, ◌-◌, ◌*◌, ◌/◌, ◌%◌, ◌<◌, ◌≤◌, ◌&&◌, Bool, true, false, eqb, ltb, leb, cond, List, [], ◌∷◌, length, map, filter, get_or, sum_by, refl, sym, ap, ◌∙◌, arith}
use Rattle.std.specs.List.{range_with_len}
use Rattle.std.proofs.Math.Nat.{mod-lt}
use Rattle.std.proofs.lemmas.Bool.Decides.{nat_tests, eqb_tells}
use Rattle.std.proofs.lemmas.Bool.{cases_lt, eq-eqb, ne_eqb}
use Rattle.std.proofs.lemmas.List.Sums.{sum_by-cons}
use Rattle.std.proofs.lemmas.Nat.{div-add-mod'}
use Rattle.rec_core.proofs.Common.{places_from, places_of, only_if, sum_at, sum_at_none, sum_at_same, sum_at_split, one, times, times-nil, times-cons, times-append, one-same}
use Rattle.rec_model.proofs.Places.{sum_at_only, sum_at-le-from_get_or}
use Rattle.rec_core.proofs.Places.{in_row, within_row}

-- equal weights have equal sums, compared where each element stands
pub sum_at_same-from_get_or : {X : Type 0} (f g : ℕ → X → ℕ) (xs : List X) (d : X) → ((i : ℕ) → i < length xs → f i (get_or xs i d) ≡ g i (get_or xs i d)) → sum_at f xs ≡ sum_at g xs
sum_at_same-from_get_or f g xs d h =
    omega (arith, sum_at-le-from_get_or f g xs d (λ i l. omega (arith, h i l)), sum_at-le-from_get_or g f xs d (λ i l. omega (arith, h i l)))

-- a weight over numbers, as a sum over the places that they name
sum_by_places : {X : Type 0} (f : ℕ → ℕ) (ns : List ℕ) (xs : List X) (d : X) → ((n : ℕ) → 0 < times n ns → n < length xs) → sum_by f ns ≡ sum_at (λ i (x : X). times i ns * f i) xs
sum_by_places {X} f [] xs d inside = sym (sum_at_none (λ i (x : X). times i [] * f i) xs (λ i x. ap (λ k. k * f i) (times-nil i) ∙ omega arith))
sum_by_places {X} f (n ∷ ns) xs d inside =
    let here : n < length xs = inside n (omega (arith, times-cons n n ns, one-same n)) in
    omega (
      arith,
      sum_by-cons f n ns,
      sum_at_split (λ i (x : X). times i (n ∷ ns) * f i) (λ i x. only_if (eqb n i) (f i)) (λ i x. times i ns * f i) xs (λ i x. ap (λ k. k * f i) (times-cons i n ns) ∙ split i n (times i ns) (f i)),
      sum_at_only (λ i (x : X). f i) xs n d here,
      sum_by_places f ns xs d (λ m h. inside m (omega (arith, times-cons m n ns, h))),
    )
  where
    split : (i n t w : ℕ) → (one (eqb i n) + t) * w ≡ only_if (eqb n i) w + t * w
    split i n t w = elim (eqb_tells i n) [
      | inl q ↦ rw (q.0, eq-eqb n i (sym q.1)) (omega arith)
      | inr q ↦ rw (q.0, ne_eqb n i (λ e. q.1 (sym e))) (omega arith)
    ]

-- lists that have each number as often have equal sums
pub sum_by_alike : {X : Type 0} (f : ℕ → ℕ) (ns ms : List ℕ) (xs : List X) (d : X) → ((n : ℕ) → 0 < times n ns → n < length xs) → ((n : ℕ) → times n ms ≡ times n ns) → sum_by f ms ≡ sum_by f ns
sum_by_alike {X} f ns ms xs d inside same =
    sum_by_places f ms xs d (λ n h. inside n (omega (arith, h, same n)))
    ∙ sum_at_same (λ i (x : X). times i ms * f i) (λ i x. times i ns * f i) xs (λ i x. ap (λ k. k * f i) (same i))
    ∙ sym (sum_by_places f ns xs d inside)

-- a number stands in a row of numbers once
pub times-range : (x from n : ℕ) → times x (range_with_len from n) ≡ one (leb from x && ltb x (from + n))
times-range x from zero = times-nil x ∙ none x from
  where
    none : (x from : ℕ) → 0 ≡ one (leb from x && ltb x (from + 0))
    none x from = grind (arith, nat_tests)
times-range x from (suc n) = more x from n (times x (range_with_len (from + 1) n)) (times x (range_with_len from (suc n))) (times-cons x from (range_with_len (from + 1) n)) (times-range x (from + 1) n)
  where
    more : (x from n rest all : ℕ) → all ≡ one (eqb x from) + rest → rest ≡ one (leb (from + 1) x && ltb x (from + 1 + n)) → all ≡ one (leb from x && ltb x (from + suc n))
    more x from n rest all e h = grind (arith, nat_tests)

pub times-filter : (x : ℕ) (p : ℕ → Bool) (ns : List ℕ) → times x (filter p ns) ≡ only_if (p x) (times x ns)
times-filter x p [] = go (p x)
  where
    go : (b : Bool) → times x [] ≡ only_if b (times x [])
    go true = refl
    go false = times-nil x
times-filter x p (n ∷ ns) = elim (eqb_tells x n) [
  | inl q ↦ go (p n) (p x) (ap p (sym q.1)) (ap one q.0) (times-filter x p ns)
  | inr q ↦ other (p n) (p x) (ap one q.0) (times-filter x p ns)
]
  where
    go : (b c : Bool) → b ≡ c → one (eqb x n) ≡ 1 → times x (filter p ns) ≡ only_if c (times x ns) → times x (cond b (n ∷ filter p ns) (filter p ns)) ≡ only_if c (times x (n ∷ ns))
    go true true e one h = omega (arith, times-cons x n ns, times-cons x n (filter p ns))
    go false false e one h = h
    go true false e one h = cc
    go false true e one h = cc

    other : (b c : Bool) → one (eqb x n) ≡ 0 → times x (filter p ns) ≡ only_if c (times x ns) → times x (cond b (n ∷ filter p ns) (filter p ns)) ≡ only_if c (times x (n ∷ ns))
    other true true none h = omega (arith, times-cons x n ns, times-cons x n (filter p ns))
    other true false none h = omega (arith, times-cons x n ns, times-cons x n (filter p ns))
    other false true none h = omega (arith, times-cons x n ns, times-cons x n (filter p ns))
    other false false none h = h

-- a slot's places are each there once, one behind another
times_row : (base p field n : ℕ) → times p (map (λ f. base + f) (range_with_len field n)) ≡ one (leb (base + field) p && ltb p (base + field + n))
times_row base p field zero = times-nil p ∙ none (base + field)
  where
    none : (a : ℕ) → 0 ≡ one (leb a p && ltb p (a + 0))
    none a = grind (arith, nat_tests)
times_row base p field (suc n) =
    more base p field n (times p (map (λ f. base + f) (range_with_len (field + 1) n))) (times p (map (λ f. base + f) (range_with_len field (suc n)))) (times-cons p (base + field) (map (λ f. base + f) (range_with_len (field + 1) n))) (times_row base p (field + 1) n)
  where
    more : (base p field n rest all : ℕ) → all ≡ one (eqb p (base + field)) + rest → rest ≡ one (leb (base + (field + 1)) p && ltb p (base + (field + 1) + n)) → all ≡ one (leb (base + field) p && ltb p (base + field + suc n))
    more base p field n rest all e h = grind (arith, nat_tests)

row_of : (slot fields p : ℕ) → 0 < fields → p / fields ≡ slot → (slot * fields ≤ p) × (p < slot * fields + fields)
row_of slot fields p some e =
    let split : slot * fields + p % fields ≡ p = ap (λ q. q * fields + p % fields) (sym e) ∙ div-add-mod' p fields in
    (omega (arith, split), omega (arith, split, mod-lt p some))

times_slot : (slot fields p : ℕ) → 0 < fields → times p (places_from fields slot 0) ≡ one (eqb (p / fields) slot)
times_slot slot fields p some = times_row (slot * fields) p 0 (fields - 0) ∙ elim (eqb_tells (p / fields) slot) [
  | inl q ↦ let r = row_of slot fields p some q.1 in ap one (inside (slot * fields) fields p r.0 r.1 ∙ sym q.0)
  | inr q ↦ ap one (outside (slot * fields) fields p (λ a b. q.1 (in_row slot fields p a b)) ∙ sym q.0)
]
  where
    inside : (base n p : ℕ) → base ≤ p → p < base + n → (leb (base + 0) p && ltb p (base + 0 + (n - 0))) ≡ true
    inside base n p a b = grind (arith, nat_tests)

    outside : (base n p : ℕ) → (base ≤ p → p < base + n → ⊥) → (leb (base + 0) p && ltb p (base + 0 + (n - 0))) ≡ false
    outside base n p apart = elim (cases_lt p base) [
      | inl l ↦ grind (arith, nat_tests)
      | inr l ↦ elim (cases_lt p (base + n)) [ inl m ↦ absurd (apart l m) | inr m ↦ grind (arith, nat_tests) ]
    ]

-- so a place stands among slots' places as often as its slot among the slots
pub times_places : (fields p : ℕ) (ns : List ℕ) → 0 < fields → times p (places_of fields ns) ≡ times (p / fields) ns
times_places fields p [] some = times-nil p ∙ sym (times-nil (p / fields))
times_places fields p (n ∷ ns) some =
    omega (arith, times-append p (places_from fields n 0) (places_of fields ns), times-cons (p / fields) n ns, times_slot n fields p some, times_places fields p ns some)

-- a weight over the places of these slots, as a sum over all words
pub sum_of_slots : (f : ℕ → ℕ) (fields : ℕ) (ns words : List ℕ) (slots : ℕ) → 0 < fields → length words ≡ slots * fields → ((n : ℕ) → 0 < times n ns → n < slots) → sum_by f (places_of fields ns) ≡ sum_at (λ p (word : ℕ). times (p / fields) ns * f p) words
sum_of_slots f fields ns words slots some long inside =
    sum_by_places f (places_of fields ns) words 0 (λ p h. omega (arith, long, within_row fields slots p some (inside (p / fields) (omega (arith, h, times_places fields p ns some)))))
    ∙ sum_at_same (λ p (word : ℕ). times p (places_of fields ns) * f p) (λ p word. times (p / fields) ns * f p) words (λ p word. ap (λ k. k * f p) (times_places fields p ns some))
