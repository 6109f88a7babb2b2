-- Lists that are gone through from the front, one element after another.
use Rattle.std.proofs.Common.{◌≡◌, ℕ, zero, suc, ◌+◌, ◌<◌, ◌≤◌, List, [], ◌∷◌, ◌++◌, length, get_or, take, drop, refl, sym, ap, ◌∙◌, arith}
use Rattle.std.specs.List.{remove, sum_by}
use Rattle.std.proofs.lemmas.List.Sums.{sum_by-append}

first_off : {A : Type 0} (l : List A) (x : A) → 0 < length l → x ≡ get_or l 0 x → l ≡ x ∷ remove l 0
first_off [] x lt is = absurd (omega arith)
first_off (y ∷ l) x lt is = λ k. sym is k ∷ l

-- so many elements are behind, and this one comes next
pub record Next {A : Type 0} (l : List A) (d : ℕ) (x : A) (xs : List A) : Type 0 where
  pub there : d < length l
  pub value : (y : A) → get_or l d y ≡ x
  pub behind : take (suc d) l ≡ take d l ++ x ∷ []
  pub ahead : drop (suc d) l ≡ xs

next_at : {A : Type 0} (l : List A) (d : ℕ) (x : A) (xs : List A) → drop d l ≡ x ∷ xs → Next l d x xs
next_at [] zero x xs e = let bad : 0 ≡ suc (length xs) = ap length e in absurd (omega (arith, bad))
next_at [] (suc d) x xs e = let bad : 0 ≡ suc (length xs) = ap length e in absurd (omega (arith, bad))
next_at (y ∷ l) zero x xs e = record {
  there = omega arith;
  value = λ d. ap (λ m. get_or m 0 d) e;
  behind = ap (λ m. take 1 m) e;
  ahead = ap (λ m. drop 1 m) e;
}
next_at (y ∷ l) (suc d) x xs e =
    let n = next_at l d x xs e in
    record {
      there = let lt = n.there in omega (arith, lt);
      value = n.value;
      behind = ap (λ m. y ∷ m) n.behind;
      ahead = n.ahead;
    }

-- the first of those that are left was taken off
pub taken_off : {A : Type 0} (l rest rest' : List A) (d : ℕ) (x : A) → rest ≡ drop d l → 0 < length rest → x ≡ get_or rest 0 x → rest' ≡ remove rest 0 → Next l d x rest'
taken_off l rest rest' d x is lt value items = next_at l d x rest' (sym is ∙ first_off rest x lt value ∙ ap (λ m. x ∷ m) (sym items))

-- where none is left, all are behind
pub none_left : {A : Type 0} (l rest : List A) (d : ℕ) → rest ≡ drop d l → length rest ≡ 0 → (length l ≤ d) × (rest ≡ [])
none_left {A = A} l rest d is none = (go l d (ap length (sym is) ∙ none), empty rest none)
  where
    go : (m : List A) (n : ℕ) → length (drop n m) ≡ 0 → length m ≤ n
    go [] n e = omega arith
    go (x ∷ m) zero e = absurd (omega (arith, e))
    go (x ∷ m) (suc n) e = let le = go m n e in omega (arith, le)

    empty : (m : List A) → length m ≡ 0 → m ≡ []
    empty [] e = refl
    empty (x ∷ m) e = absurd (omega (arith, e))

pub take_next : {A : Type 0} (l : List A) (n : ℕ) (d : A) → n < length l → take (suc n) l ≡ take n l ++ get_or l n d ∷ []
take_next [] n d lt = absurd (omega arith)
take_next (x ∷ l) zero d lt = refl
take_next (x ∷ l) (suc n) d lt = ap (λ m. x ∷ m) (take_next l n d (omega arith))

pub sum_more : {A : Type 0} (f : A → ℕ) (l : List A) (x : A) → sum_by f (l ++ x ∷ []) ≡ sum_by f l + f x
sum_more f l x = sum_by-append f l (x ∷ []) ∙ (let e : sum_by f l + (0 + f x) ≡ sum_by f l + f x = omega arith in e)
