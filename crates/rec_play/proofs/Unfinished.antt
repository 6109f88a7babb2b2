-- The mutators that have commands left.
use Rattle.std.proofs.Common.{◌≡◌, ℕ, ◌+◌, ◌-◌, ◌<◌, ◌≤◌, zero, suc, List, [], ◌∷◌, ◌++◌, Some, slice_index_or, slice_set, length, take, replicate, refl, sym, ap, ◌∙◌, arith}
use Rattle.std.specs.List.{slice_get, filter_map, flat_map, enumerate_from}
use Rattle.rec_play.specs.Playing.{if_unfinished}

-- those with commands left, numbered from k
abbrev from : ℕ → List ℕ → List ℕ
from k left = filter_map (λ p. if_unfinished p.0 p.1) (enumerate_from k left)

-- a mutator that is named has commands left
pub record IsDue (k : ℕ) (left : List ℕ) (t : ℕ) : Type 0 where
  pub index : ℕ
  pub is : t ≡ k + index
  pub there : index < length left
  pub some : 0 < slice_index_or left index 0

due_later : (k : ℕ) (n : ℕ) (left : List ℕ) (t : ℕ) → IsDue (k + 1) left t → IsDue k (n ∷ left) t
due_later k n left t due =
    record {
      index = suc due.index;
      is = let is : t ≡ k + 1 + due.index = due.is in omega arith;
      there = let there : due.index < length left = due.there in omega arith;
      some = due.some;
    }

pub is_due : (k : ℕ) (left : List ℕ) (place t : ℕ) → slice_get (from k left) place ≡ Some t → IsDue k left t
is_due k [] place t named = cc
is_due k (zero ∷ left) place t named = due_later k 0 left t (is_due (k + 1) left place t named)
is_due k (suc n ∷ left) zero t named =
    let same : k ≡ t = (cc) in
    record { index = 0; is = omega arith; there = omega arith; some = omega arith }
is_due k (suc n ∷ left) (suc place) t named = due_later k (suc n) left t (is_due (k + 1) left place t named)

-- who has a command left after one is as unfinished as before
pub still_unfinished : (k : ℕ) (left : List ℕ) (i v : ℕ) → 0 < slice_index_or left i 0 → 0 < v → from k (slice_set left i v) ≡ from k left
still_unfinished k [] i v some more = refl
still_unfinished k (zero ∷ left) zero v some more = absurd (omega (arith, some))
still_unfinished k (suc n ∷ left) zero zero some more = absurd (omega (arith, more))
still_unfinished k (suc n ∷ left) zero (suc v) some more = refl
still_unfinished k (zero ∷ left) (suc i) v some more = still_unfinished (k + 1) left i v some more
still_unfinished k (suc n ∷ left) (suc i) v some more = ap (λ ts. k ∷ ts) (still_unfinished (k + 1) left i v some more)

-- one mutator more, unfinished or finished
pub named_more : (k : ℕ) (left : List ℕ) (i : ℕ) → 0 < slice_index_or left i 0 → from k (take (i + 1) left) ≡ from k (take i left) ++ (k + i) ∷ []
named_more k left i some = ap (λ n. from k (take n left)) (let next : i + 1 ≡ suc i = omega arith in next) ∙ named_next k left i some
  where
    named_next : (k : ℕ) (left : List ℕ) (i : ℕ) → 0 < slice_index_or left i 0 → from k (take (suc i) left) ≡ from k (take i left) ++ (k + i) ∷ []
    named_next k [] i some = absurd (omega (arith, some))
    named_next k (zero ∷ left) zero some = absurd (omega (arith, some))
    named_next k (suc n ∷ left) zero some = ap (λ t. t ∷ []) (let same : k ≡ k + 0 = omega arith in same)
    named_next k (zero ∷ left) (suc i) some = named_next (k + 1) left i some ∙ ap (λ t. from (k + 1) (take i left) ++ t ∷ []) (let same : k + 1 + i ≡ k + suc i = omega arith in same)
    named_next k (suc n ∷ left) (suc i) some = ap (λ ts. k ∷ ts) (named_next (k + 1) left i some) ∙ ap (λ t. k ∷ from (k + 1) (take i left) ++ t ∷ []) (let same : k + 1 + i ≡ k + suc i = omega arith in same)

pub named_same : (k : ℕ) (left : List ℕ) (i : ℕ) → slice_index_or left i 0 ≤ 0 → from k (take (i + 1) left) ≡ from k (take i left)
named_same k left i none = ap (λ n. from k (take n left)) (let next : i + 1 ≡ suc i = omega arith in next) ∙ same_next k left i none
  where
    same_next : (k : ℕ) (left : List ℕ) (i : ℕ) → slice_index_or left i 0 ≤ 0 → from k (take (suc i) left) ≡ from k (take i left)
    same_next k [] i none = ap (from k) (nothing_taken i)
      where
        nothing_taken : (n : ℕ) → take {A = ℕ} (suc n) [] ≡ take n []
        nothing_taken zero = refl
        nothing_taken (suc n) = refl
    same_next k (zero ∷ left) zero none = refl
    same_next k (suc n ∷ left) zero none = absurd (omega (arith, none))
    same_next k (zero ∷ left) (suc i) none = same_next (k + 1) left i none
    same_next k (suc n ∷ left) (suc i) none = ap (λ ts. k ∷ ts) (same_next (k + 1) left i none)

-- the commands left mutator by mutator, numbered from k
abbrev pub rest_from : ℕ → List ℕ → List ℕ
rest_from k left = flat_map (λ p. replicate p.1 p.0) (enumerate_from k left)

-- where none is unfinished, nothing is left
pub none_left : (k : ℕ) (left : List ℕ) → length (from k left) ≡ 0 → rest_from k left ≡ []
none_left k [] none = refl
none_left k (zero ∷ left) none = none_left (k + 1) left none
none_left k (suc n ∷ left) none = absurd (omega (arith, none))

-- the first unfinished mutator's next command comes first
pub rest_first : (k : ℕ) (left : List ℕ) (i : ℕ) → slice_get (from k left) 0 ≡ Some (k + i) → rest_from k left ≡ (k + i) ∷ rest_from k (slice_set left i (slice_index_or left i 0 - 1))
rest_first k [] i first = cc
rest_first k (zero ∷ left) zero first = let due : IsDue (k + 1) left (k + 0) = is_due (k + 1) left 0 (k + 0) first in absurd (omega (arith, due.is))
rest_first k (zero ∷ left) (suc i) first =
    let same : k + suc i ≡ k + 1 + i = omega arith in
    rest_first (k + 1) left i (first ∙ ap (λ t. Some t) same) ∙ ap (λ t. t ∷ rest_from (k + 1) (slice_set left i (slice_index_or left i 0 - 1))) (sym same)
rest_first k (suc n ∷ left) zero first =
    let same : k ≡ k + 0 = omega arith in
    let less : n ≡ suc n - 1 = omega arith in
    ap (λ t. t ∷ replicate n k ++ rest_from (k + 1) left) same ∙ ap (λ m. (k + 0) ∷ replicate m k ++ rest_from (k + 1) left) less
rest_first k (suc n ∷ left) (suc i) first = absurd (let same : k ≡ k + suc i = (cc) in omega arith)
