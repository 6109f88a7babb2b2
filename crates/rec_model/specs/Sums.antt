-- Sums of weights over lists.
use Rattle.std.specs.Prelude.{◌≡◌, ℕ, suc, ◌+◌, Bool, true, false, ◌==◌, List, [], ◌∷◌}
use Rattle.std.specs.List.{sum_by}

-- the number where the test holds, else 0
abbrev pub only_if : Bool → ℕ → ℕ
only_if true n = n
only_if false n = 0

-- 1 where the two are equal, else 0
abbrev pub one_if_same : ℕ → ℕ → ℕ
one_if_same x y = only_if (x == y) 1

-- the sum of a weight that knows where in the list it is
abbrev pub sum_at : {X : Type 0} → (ℕ → X → ℕ) → List X → ℕ
sum_at weight [] = 0
sum_at weight (x ∷ xs) = weight 0 x + sum_at (λ i. weight (suc i)) xs

-- No weight tells the lists apart: they have the same elements, in whatever order.
abbrev pub HasSameSums : {X : Type 0} → (before after : List X) → Type 0
HasSameSums {X} before after = (weight : X → ℕ) → sum_by weight after ≡ sum_by weight before

-- the same elements at the same places
abbrev pub HasSameSumsAt : {X : Type 0} → (before after : List X) → Type 0
HasSameSumsAt {X} before after = (weight : ℕ → X → ℕ) → sum_at weight after ≡ sum_at weight before
