-- Sums of weights over lists and over numbers, and tests that guard a weight.
use Rattle.std.proofs.Common.{◌≡◌, ℕ, zero, suc, ◌+◌, ◌<◌, ◌≤◌, cond, eqb, List, [], ◌∷◌, ◌++◌, length, take, drop, get_or, refl, ap, arith}
use Rattle.std.proofs.Math.Seq.{take-suc, take-length}
use Rattle.std.proofs.lemmas.List.{take-append-le, take-append-drop}
use Rattle.rec_trial.proofs.Common.{one}
use Rattle.rec_counts.specs.Lists.{times as count_times}
use Rattle.rec_counts.proofs.Times.{times-nil, times-cons, times_at}

-- the sum of a weight over a list
abbrev pub total : {A : Type 0} → (A → ℕ) → List A → ℕ
total f [] = 0
total f (x ∷ xs) = f x + total f xs

-- the sum of a weight over so many of the first
abbrev pub total_of_first : (ℕ → ℕ) → ℕ → List ℕ → ℕ
total_of_first f k xs = total f (take k xs)

-- the sum of a weight over the numbers below one
abbrev pub total_below : (ℕ → ℕ) → ℕ → ℕ
total_below f zero = 0
total_below f (suc k) = total_below f k + f k

-- what is not 0 is more
pub nonzero : (n : ℕ) → (n ≡ 0 → ⊥) → 0 < n
nonzero zero h = absurd (h refl)
nonzero (suc n) h = omega arith

-- one where the two are equal
abbrev pub same : ℕ → ℕ → ℕ
same x y = one (eqb x y)

-- how often a number stands in a list
abbrev pub times : ℕ → List ℕ → ℕ
times x xs = total (same x) xs

-- a function changed at one place
abbrev pub changed : {A : Type 0} → (ℕ → A) → ℕ → A → ℕ → A
changed f x v y = cond (eqb y x) v (f y)

pub total_append : {A : Type 0} (f : A → ℕ) (xs ys : List A) → total f (xs ++ ys) ≡ total f xs + total f ys
total_append f [] ys = omega arith
total_append f (x ∷ xs) ys = omega (arith, total_append f xs ys)

pub first_grown : (f : ℕ → ℕ) (k : ℕ) (xs ys : List ℕ) → k ≤ length xs → total_of_first f k (xs ++ ys) ≡ total_of_first f k xs
first_grown f k xs ys h = ap (total f) (take-append-le k xs ys h)

pub first_more : (f : ℕ → ℕ) (k : ℕ) (xs : List ℕ) → k < length xs → total_of_first f (suc k) xs ≡ total_of_first f k xs + f (get_or xs k 0)
first_more f k xs h = omega (arith, ap (total f) (take-suc xs k 0 h), total_append f (take k xs) (get_or xs k 0 ∷ []))

pub first_whole : (f : ℕ → ℕ) (xs : List ℕ) → total_of_first f (length xs) xs ≡ total f xs
first_whole f xs = ap (total f) (take-length xs)

pub first_le : (f : ℕ → ℕ) (k : ℕ) (xs : List ℕ) → total_of_first f k xs ≤ total f xs
first_le f k xs = omega (arith, total_append f (take k xs) (drop k xs), ap (total f) (take-append-drop k xs))

-- it is what the counts say of how often a slot stands in a list
pub occurs : (x : ℕ) (xs : List ℕ) → count_times x xs ≡ times x xs
occurs x [] = times-nil x
occurs x (y ∷ ys) = omega (arith, times-cons x y ys, occurs x ys)

-- what stands at a place stands in the list
pub times_here : (xs : List ℕ) (k : ℕ) → k < length xs → 0 < times (get_or xs k 0) xs
times_here xs k h = omega (arith, occurs (get_or xs k 0) xs, times_at xs k h)
