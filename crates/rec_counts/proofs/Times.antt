-- How often a number stands in a list.
use Rattle.std.proofs.Common.{◌≡◌, ℕ, suc, zero, ◌+◌, ◌<◌, ◌≤◌, Bool, true, false, eqb, ltb, cond, List, [], ◌∷◌, ◌++◌, length, take, drop, get_or, refl, arith, sym, ◌∙◌, ap, inl, inr}
use Rattle.std.specs.List.{concat, list_any, IsDistinct, AllByRecursion}
use Rattle.std.proofs.lemmas.List.Sums.{sum_by-cons, sum_by-append, sum_by_push, sum_by_more}
use Rattle.std.proofs.lemmas.List.{length_push}
use Rattle.std.proofs.lemmas.Map.Keys.{IsDistinct-cons}
use Rattle.std.proofs.lemmas.Map.Steps.{length-le_from_distinct_below}
use Rattle.std.proofs.lemmas.Bool.Decides.{nat_tests, eqb_tells}
use Rattle.std.proofs.lemmas.Bool.{cases_lt, lt-ltb, eq-eqb}
use Rattle.rec_counts.specs.Lists.{one, times, EachOnce}

pub times-nil : (x : ℕ) → times x [] ≡ 0
unfolding times
times-nil x = refl

pub times-cons : (x y : ℕ) (ys : List ℕ) → times x (y ∷ ys) ≡ one (eqb x y) + times x ys
unfolding times
times-cons x y ys = sum_by-cons (λ z. cond (eqb x z) 1 0) y ys

pub times-append : (x : ℕ) (xs ys : List ℕ) → times x (xs ++ ys) ≡ times x xs + times x ys
unfolding times
times-append x xs ys = sum_by-append (λ z. cond (eqb x z) 1 0) xs ys

pub times_push : (x : ℕ) (xs : List ℕ) (y : ℕ) → times x (xs ++ y ∷ []) ≡ times x xs + one (eqb x y)
unfolding times
times_push x xs y = sum_by_push (λ z. cond (eqb x z) 1 0) xs y

pub times_more : (x : ℕ) (xs : List ℕ) (i : ℕ) → i < length xs → times x (take (i + 1) xs) ≡ times x (take i xs) + one (eqb x (get_or xs i 0))
unfolding times
times_more x xs i h = sum_by_more (λ z. cond (eqb x z) 1 0) xs i 0 h

pub one-same : (x : ℕ) → one (eqb x x) ≡ 1
one-same x = rw (eq-eqb x x refl) refl

pub one-le : (b : Bool) → one b ≤ 1
one-le true = omega arith
one-le false = omega arith

pub one-some : (b : Bool) → 0 < one b → b ≡ true
one-some true h = refl
one-some false h = absurd (omega arith)

pub one-none : (b : Bool) → one b ≡ 0 → b ≡ false
one-none true h = absurd (omega arith)
one-none false h = refl

-- a number that is 1 where it holds, else 0, tells whether it holds
pub test_of : (n : ℕ) (b : Bool) → n ≡ one b → ltb 0 n ≡ b
test_of n true e = rw e refl
test_of n false e = rw e refl

-- what holds of one more in a list
pub inside_more : (P : ℕ → Type 0) (xs : List ℕ) (i : ℕ) → i < length xs → P (get_or xs i 0) → ((x : ℕ) → 0 < times x (take i xs) → P x) → (x : ℕ) → 0 < times x (take (i + 1) xs) → P x
inside_more P xs i l p h x t = elim (eqb_tells x (get_or xs i 0)) [
  | inl q ↦ rw q.1 p
  | inr q ↦ let n : one (eqb x (get_or xs i 0)) ≡ 0 = ap one q.0 in h x (omega (arith, t, n, times_more x xs i l))
]

-- and of one more at its end
pub inside_push : (P : ℕ → Type 0) (xs : List ℕ) (y : ℕ) → P y → ((x : ℕ) → 0 < times x xs → P x) → (x : ℕ) → 0 < times x (xs ++ y ∷ []) → P x
inside_push P xs y p h x t = elim (eqb_tells x y) [
  | inl q ↦ rw q.1 p
  | inr q ↦ let n : one (eqb x y) ≡ 0 = ap one q.0 in h x (omega (arith, t, n, times_push x xs y))
]

-- without the first, each stands there no more often
pub times_rest : (x : ℕ) (xs : List ℕ) → times x (drop 1 xs) ≤ times x xs
times_rest x [] = omega arith
times_rest x (y ∷ ys) = omega (arith, times-cons x y ys)

-- what stands at a place stands in the list
pub times_at : (xs : List ℕ) (i : ℕ) → i < length xs → 0 < times (get_or xs i 0) xs
times_at [] i h = absurd (omega arith)
times_at (x ∷ xs) zero h = omega (arith, times-cons x x xs, one-same x)
times_at (x ∷ xs) (suc i) h = omega (arith, times-cons (get_or xs i 0) x xs, times_at xs i (omega arith))

-- one of the lists has it no more often than all together
pub times_part : (x : ℕ) (xss : List (List ℕ)) (i : ℕ) → times x (get_or xss i []) ≤ times x (concat xss)
times_part x [] i = omega arith
times_part x (xs ∷ xss) zero = omega (arith, times-append x xs (concat xss))
times_part x (xs ∷ xss) (suc i) = omega (arith, times-append x xs (concat xss), times_part x xss i)

-- what none of the lists has, all together do not have
pub times_parts : (x : ℕ) (xss : List (List ℕ)) → ((i : ℕ) → times x (get_or xss i []) ≡ 0) → times x (concat xss) ≡ 0
times_parts x [] h = times-nil x
times_parts x (xs ∷ xss) h =
    omega (arith, times-append x xs (concat xss), h 0, times_parts x xss (λ i. h (suc i)))

others : (x : ℕ) (xs : List ℕ) → times x xs ≡ 0 → AllByRecursion (λ y. eqb x y ≡ false) xs
others x [] h = tt
others x (y ∷ ys) h =
    let e : one (eqb x y) + times x ys ≡ 0 = sym (times-cons x y ys) ∙ h in
    (go (eqb x y) (omega arith), others x ys (omega arith))
  where
    go : (b : Bool) → one b ≡ 0 → b ≡ false
    go true h = absurd (omega arith)
    go false h = refl

distinct : (xs : List ℕ) → ((x : ℕ) → times x xs ≤ 1) → IsDistinct eqb xs
unfolding IsDistinct
distinct [] h = tt
distinct (x ∷ xs) h =
    IsDistinct-cons eqb x xs (others x xs (omega (arith, h x, times-cons x x xs, one-same x))) (distinct xs (λ y. omega (arith, h y, times-cons y x xs)))

among : (x : ℕ) (xs : List ℕ) → list_any (eqb x) xs ≡ true → 0 < times x xs
among x [] h = cc
among x (y ∷ ys) h = go (eqb x y) refl (among x ys)
  where
    go : (b : Bool) → eqb x y ≡ b → (list_any (eqb x) ys ≡ true → 0 < times x ys) → 0 < times x (y ∷ ys)
    go true e r = let n : one (eqb x y) ≡ 1 = ap one e in omega (arith, times-cons x y ys)
    go false e r = let t : list_any (eqb x) ys ≡ true = rw e at h in omega (arith, times-cons x y ys, r t)

below : (x n : ℕ) → 0 < one (ltb x n) → x < n
below x n h = grind (arith, nat_tests)

-- a list that has each number below n at most once is no longer than n
pub length-once : (n : ℕ) (xs : List ℕ) → EachOnce n xs → length xs ≤ n
length-once n xs h =
    length-le_from_distinct_below xs n (distinct xs (λ x. omega (arith, h x, one-le (ltb x n)))) (λ q m. below q n (omega (arith, h q, among q xs m)))

-- with one that is not in it yet
pub once_push : (n : ℕ) (xs : List ℕ) (y : ℕ) → EachOnce n xs → times y xs ≡ 0 → y < n → EachOnce n (xs ++ y ∷ [])
once_push n xs y h f l x =
    elim (eqb_tells x y) [
      | inl e ↦ let none : times x xs ≡ 0 = rw e.1 f in let in_range : one (ltb x n) ≡ 1 = rw (e.1, lt-ltb y n l) refl in omega (arith, times_push x xs y, one-le (eqb x y))
      | inr e ↦ let other : one (eqb x y) ≡ 0 = ap one e.0 in omega (arith, times_push x xs y, h x)
    ]

-- there is room for one that is not in it yet
pub room_once : (n : ℕ) (xs : List ℕ) (y : ℕ) → EachOnce n xs → times y xs ≡ 0 → y < n → length xs < n
room_once n xs y h f l = omega (arith, length-once n (xs ++ y ∷ []) (once_push n xs y h f l), length_push xs y)

pub once_rest : (n : ℕ) (xs : List ℕ) → EachOnce n xs → EachOnce n (drop 1 xs)
once_rest n xs h x = omega (arith, h x, times_rest x xs)

pub once_none : (n : ℕ) → EachOnce n []
once_none n x = omega (arith, times-nil x)

-- what stands in such a list is below n
pub in_range_once : (n : ℕ) (xs : List ℕ) (x : ℕ) → EachOnce n xs → 0 < times x xs → x < n
in_range_once n xs x h l = below x n (omega (arith, h x))

-- two lists that share no slot
pub both_once : (n : ℕ) (xs ys : List ℕ) → EachOnce n xs → EachOnce n ys → ((x : ℕ) → 0 < times x ys → times x xs ≡ 0) → EachOnce n (xs ++ ys)
both_once n xs ys k l new x =
    elim (cases_lt 0 (times x ys)) [
      | inl some ↦ omega (arith, new x some, l x, times-append x xs ys)
      | inr none ↦ omega (arith, none, k x, times-append x xs ys)
    ]
