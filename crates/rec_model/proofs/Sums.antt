-- Sums of weights: a change of one element, and comparisons of weights.
use Rattle.std.proofs.Common.{◌≡◌, ℕ, zero, suc, ◌+◌, ◌<◌, ◌≤◌, List, [], ◌∷◌, length, get_or, set, replicate, flat_map, sum_by, refl, arith, Bool, true, false, cond, map, filter}
use Rattle.std.proofs.lemmas.List.Sums.{sum_by-cons, sum_by-append}
use Rattle.rec_model.proofs.Common.{only_if, sum_at}

pub sum_at-set : {X : Type 0} (f : ℕ → X → ℕ) (xs : List X) (i : ℕ) (y d : X) → i < length xs → sum_at f (set xs i y) + f i (get_or xs i d) ≡ sum_at f xs + f i y
sum_at-set f [] i y d h = omega arith
sum_at-set f (x ∷ xs) zero y d h = omega arith
sum_at-set f (x ∷ xs) (suc i) y d h =
    let r : sum_at (λ k. f (suc k)) (set xs i y) + f (suc i) (get_or xs i d) ≡ sum_at (λ k. f (suc k)) xs + f (suc i) y = sum_at-set (λ k. f (suc k)) xs i y d (omega arith) in
    omega arith

-- one element weighs at most what all do
pub get_or-le-sum_at : {X : Type 0} (f : ℕ → X → ℕ) (xs : List X) (i : ℕ) (d : X) → i < length xs → f i (get_or xs i d) ≤ sum_at f xs
get_or-le-sum_at f [] i d h = omega arith
get_or-le-sum_at f (x ∷ xs) zero d h = omega arith
get_or-le-sum_at f (x ∷ xs) (suc i) d h =
    let r : f (suc i) (get_or xs i d) ≤ sum_at (λ k. f (suc k)) xs = get_or-le-sum_at (λ k. f (suc k)) xs i d (omega arith) in
    omega arith

-- a sum of larger weights is larger
pub sum_at-le-sum_at : {X : Type 0} (f g : ℕ → X → ℕ) (xs : List X) → ((i : ℕ) (x : X) → f i x ≤ g i x) → sum_at f xs ≤ sum_at g xs
sum_at-le-sum_at f g [] h = omega arith
sum_at-le-sum_at f g (x ∷ xs) h =
    let r : sum_at (λ k. f (suc k)) xs ≤ sum_at (λ k. g (suc k)) xs = sum_at-le-sum_at (λ k. f (suc k)) (λ k. g (suc k)) xs (λ i y. h (suc i) y) in
    omega (arith, h 0 x)

-- equal weights have equal sums
pub sum_at_same : {X : Type 0} (f g : ℕ → X → ℕ) (xs : List X) → ((i : ℕ) (x : X) → f i x ≡ g i x) → sum_at f xs ≡ sum_at g xs
sum_at_same f g [] h = refl
sum_at_same f g (x ∷ xs) h = omega (arith, h 0 x, sum_at_same (λ k. f (suc k)) (λ k. g (suc k)) xs (λ i y. h (suc i) y))

pub sum_by_same : {X : Type 0} (f g : X → ℕ) (xs : List X) → ((x : X) → f x ≡ g x) → sum_by f xs ≡ sum_by g xs
sum_by_same f g [] h = refl
sum_by_same f g (x ∷ xs) h = omega (arith, h x, sum_by-cons f x xs, sum_by-cons g x xs, sum_by_same f g xs h)

-- a weight that is the sum of two
pub sum_by_split : {X : Type 0} (f g h : X → ℕ) (xs : List X) → ((x : X) → f x ≡ g x + h x) → sum_by f xs ≡ sum_by g xs + sum_by h xs
sum_by_split f g h [] e = refl
sum_by_split f g h (x ∷ xs) e = omega (arith, e x, sum_by-cons f x xs, sum_by-cons g x xs, sum_by-cons h x xs, sum_by_split f g h xs e)

pub sum_at_split : {X : Type 0} (f g h : ℕ → X → ℕ) (xs : List X) → ((i : ℕ) (x : X) → f i x ≡ g i x + h i x) → sum_at f xs ≡ sum_at g xs + sum_at h xs
sum_at_split f g h [] e = refl
sum_at_split f g h (x ∷ xs) e = omega (arith, e 0 x, sum_at_split (λ k. f (suc k)) (λ k. g (suc k)) (λ k. h (suc k)) xs (λ i y. e (suc i) y))

-- a weight of nothing
pub sum_by_none : {X : Type 0} (f : X → ℕ) (xs : List X) → ((x : X) → f x ≡ 0) → sum_by f xs ≡ 0
sum_by_none f [] h = refl
sum_by_none f (x ∷ xs) h = omega (arith, h x, sum_by-cons f x xs, sum_by_none f xs h)

pub sum_at_none : {X : Type 0} (f : ℕ → X → ℕ) (xs : List X) → ((i : ℕ) (x : X) → f i x ≡ 0) → sum_at f xs ≡ 0
sum_at_none f [] h = refl
sum_at_none f (x ∷ xs) h = omega (arith, h 0 x, sum_at_none (λ k. f (suc k)) xs (λ i y. h (suc i) y))

-- the same elements, none of which weighs
pub sum_at-replicate_none : {X : Type 0} (f : ℕ → X → ℕ) (n : ℕ) (x : X) → ((i : ℕ) → f i x ≡ 0) → sum_at f (replicate n x) ≡ 0
sum_at-replicate_none f zero x h = refl
sum_at-replicate_none f (suc n) x h = omega (arith, h 0, sum_at-replicate_none (λ i. f (suc i)) n x (λ i. h (suc i)))

-- a sum of larger weights is larger, where nothing is wrong
pub sum_by_le_unless : {X : Type 0} (wrong f g : X → ℕ) (xs : List X) → sum_by wrong xs ≡ 0 → ((x : X) → wrong x ≡ 0 → f x ≤ g x) → sum_by f xs ≤ sum_by g xs
sum_by_le_unless wrong f g [] z h = omega arith
sum_by_le_unless wrong f g (x ∷ xs) z h =
    let first : wrong x ≡ 0 = omega (arith, z, sum_by-cons wrong x xs) in
    omega (arith, h x first, sum_by-cons f x xs, sum_by-cons g x xs, sum_by_le_unless wrong f g xs (omega (arith, z, sum_by-cons wrong x xs)) h)

-- a weight over the elements that pass a test
pub sum_by-filter : {X : Type 0} (p : X → Bool) (f : X → ℕ) (ys : List X) → sum_by f (filter p ys) ≡ sum_by (λ y. only_if (p y) (f y)) ys
sum_by-filter p f [] = refl
sum_by-filter p f (y ∷ ys) = omega (arith, first (p y), sum_by-filter p f ys, sum_by-cons (λ z. only_if (p z) (f z)) y ys)
  where
    first : (b : Bool) → sum_by f (cond b (y ∷ filter p ys) (filter p ys)) ≡ only_if b (f y) + sum_by f (filter p ys)
    first true = sum_by-cons f y (filter p ys)
    first false = omega arith

-- a weight over what elements are made into
pub sum_by-map : {X Y : Type 0} (f : Y → ℕ) (g : X → Y) (xs : List X) → sum_by f (map g xs) ≡ sum_by (λ x. f (g x)) xs
sum_by-map f g [] = refl
sum_by-map f g (x ∷ xs) = omega (arith, sum_by-cons f (g x) (map g xs), sum_by-cons (λ y. f (g y)) x xs, sum_by-map f g xs)

-- a weight over lists joined, and after one of them is replaced
pub sum_by-flat_map : {X Y : Type 0} (f : Y → ℕ) (g : X → List Y) (xs : List X) → sum_by f (flat_map g xs) ≡ sum_by (λ x. sum_by f (g x)) xs
sum_by-flat_map f g [] = refl
sum_by-flat_map f g (x ∷ xs) = omega (arith, sum_by-append f (g x) (flat_map g xs), sum_by-cons (λ y. sum_by f (g y)) x xs, sum_by-flat_map f g xs)
