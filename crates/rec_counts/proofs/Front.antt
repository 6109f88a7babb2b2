-- The first of a list, and the rest of it.
use Rattle.std.proofs.Common.{◌≡◌, ℕ, ◌<◌, None, Some, List, [], ◌∷◌, drop, slice_get, refl, arith, ap}
use Rattle.rec_counts.specs.Lists.{times}
use Rattle.rec_counts.proofs.Times.{times-cons, one-same}

pub first_and_rest : (xs : List ℕ) (x : ℕ) → slice_get xs 0 ≡ Some x → xs ≡ x ∷ drop 1 xs
first_and_rest [] x e = cc
first_and_rest (y ∷ ys) x e = cc

pub nothing_first : (xs : List ℕ) → slice_get xs 0 ≡ None → xs ≡ []
nothing_first [] e = refl
nothing_first (x ∷ xs) e = cc

-- what comes first stands in the list
pub first_in : (xs : List ℕ) (x : ℕ) → slice_get xs 0 ≡ Some x → 0 < times x xs
first_in xs x e = omega (arith, ap (times x) (first_and_rest xs x e), times-cons x x (drop 1 xs), one-same x)
