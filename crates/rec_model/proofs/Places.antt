-- Sums of weights place by place.
use Rattle.std.proofs.Common.{◌≡◌, ℕ, zero, suc, ◌<◌, ◌≤◌, eqb, List, [], ◌∷◌, length, get_or, sum_by, refl, arith}
use Rattle.std.proofs.lemmas.Bool.Decides.{nat_tests}
use Rattle.std.proofs.lemmas.List.Sums.{sum_by-cons}
use Rattle.rec_model.proofs.Common.{only_if, sum_at}
use Rattle.rec_model.proofs.Sums.{sum_at-le-sum_at, sum_at_split, sum_at_none}
use Rattle.rec_model.proofs.Weights.{only_if-le}

-- a sum of larger weights is larger, compared where each element stands
pub sum_at-le-from_get_or : {X : Type 0} (f g : ℕ → X → ℕ) (xs : List X) (d : X) → ((i : ℕ) → i < length xs → f i (get_or xs i d) ≤ g i (get_or xs i d)) → sum_at f xs ≤ sum_at g xs
sum_at-le-from_get_or f g [] d h = omega arith
sum_at-le-from_get_or f g (x ∷ xs) d h =
    let r : sum_at (λ k. f (suc k)) xs ≤ sum_at (λ k. g (suc k)) xs = sum_at-le-from_get_or (λ k. f (suc k)) (λ k. g (suc k)) xs d (λ i l. h (suc i) (omega (arith, l))) in
    omega (arith, h 0 (omega arith), r)

-- a weight of nothing, place by place
pub sum_at_none-from_get_or : {X : Type 0} (f : ℕ → X → ℕ) (xs : List X) (d : X) → ((i : ℕ) → i < length xs → f i (get_or xs i d) ≡ 0) → sum_at f xs ≡ 0
sum_at_none-from_get_or f xs d h = omega (arith, sum_at-le-from_get_or f (λ i x. 0) xs d (λ i l. omega (arith, h i l)), sum_at_none (λ i x. 0) xs (λ i x. refl))

same_behind : (i k n : ℕ) → only_if (eqb (suc k) (suc i)) n ≡ only_if (eqb k i) n
same_behind i k n = grind (arith, nat_tests)

none_behind : (i n : ℕ) → only_if (eqb 0 (suc i)) n ≡ 0
none_behind i n = grind (arith, nat_tests)

none_before : (k n : ℕ) → only_if (eqb (suc k) 0) n ≡ 0
none_before k n = grind (arith, nat_tests)

-- a weight of one place
pub sum_at_only : {X : Type 0} (f : ℕ → X → ℕ) (xs : List X) (p : ℕ) (d : X) → p < length xs → sum_at (λ i x. only_if (eqb p i) (f i x)) xs ≡ f p (get_or xs p d)
sum_at_only f [] p d h = absurd (omega (arith, h))
sum_at_only f (x ∷ xs) zero d h = omega (arith, sum_at_none (λ i y. only_if (eqb 0 (suc i)) (f (suc i) y)) xs (λ i y. none_behind i (f (suc i) y)))
sum_at_only f (x ∷ xs) (suc p) d h =
    let r : sum_at (λ i y. only_if (eqb p i) (f (suc i) y)) xs ≡ f (suc p) (get_or xs p d) = sum_at_only (λ k. f (suc k)) xs p d (omega (arith, h)) in
    omega (arith, r, none_before p (f 0 x), sum_at-le-sum_at (λ i y. only_if (eqb (suc p) (suc i)) (f (suc i) y)) (λ i y. only_if (eqb p i) (f (suc i) y)) xs (λ i y. omega (arith, same_behind i p (f (suc i) y))), sum_at-le-sum_at (λ i y. only_if (eqb p i) (f (suc i) y)) (λ i y. only_if (eqb (suc p) (suc i)) (f (suc i) y)) xs (λ i y. omega (arith, same_behind i p (f (suc i) y))))

-- a number at one place weighs at most that number, whether the place is there or not
pub sum_at_here-le : {X : Type 0} (p n : ℕ) (xs : List X) → sum_at (λ i x. only_if (eqb p i) n) xs ≤ n
sum_at_here-le p n [] = omega arith
sum_at_here-le {X} zero n (x ∷ xs) = omega (arith, only_if-le (eqb 0 0) n, sum_at_none (λ i (y : X). only_if (eqb 0 (suc i)) n) xs (λ i y. none_behind i n))
sum_at_here-le {X} (suc p) n (x ∷ xs) =
    omega (arith, none_before p n, sum_at_here-le p n xs, sum_at-le-sum_at (λ i (y : X). only_if (eqb (suc p) (suc i)) n) (λ i y. only_if (eqb p i) n) xs (λ i y. omega (arith, same_behind i p n)))

-- sums of sums, the one way or the other
pub sum_at-sum_by : {X Y : Type 0} (g : ℕ → Y → ℕ) (xs : List X) (ys : List Y) → sum_at (λ i x. sum_by (g i) ys) xs ≡ sum_by (λ y. sum_at (λ i x. g i y) xs) ys
sum_at-sum_by {X} g xs [] = sum_at_none (λ i (x : X). 0) xs (λ i x. refl)
sum_at-sum_by {X} {Y} g xs (y ∷ ys) =
    omega (
      arith,
      sum_by-cons (λ z. sum_at (λ i (x : X). g i z) xs) y ys,
      sum_at-sum_by g xs ys,
      sum_at_split (λ i (x : X). sum_by (g i) (y ∷ ys)) (λ i x. g i y) (λ i x. sum_by (g i) ys) xs (λ i x. sum_by-cons (g i) y ys),
    )
