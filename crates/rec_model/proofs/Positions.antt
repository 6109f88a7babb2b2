-- Where a number stands in a list: within it, and the same in a longer list.
use Rattle.std.proofs.Common.{◌≡◌, ℕ, ◌+◌, ◌<◌, ◌==◌, inl, inr, true, false, cond, List, [], ◌∷◌, ◌++◌, length, refl, sym, ◌∙◌, ap, arith, eqb}
use Rattle.std.specs.List.{position_or_len}
use Rattle.std.proofs.lemmas.Bool.{cases_Bool, both_ways, false≢true, eq-eqb, ne_eqb}
use Rattle.std.proofs.lemmas.List.Folds.{position_or_len_push}
use Rattle.rec_model.proofs.Common.{is_in}
use Rattle.rec_model.specs.Listing.{number_in}
use Rattle.rec_model.proofs.Members.{is_in-cases, is_in-cons, or_none}

-- a number that isn't in the list has the place behind it
place-none : (n : ℕ) (ns : List ℕ) → is_in n ns ≡ false → position_or_len (λ m. m == n) ns ≡ length ns
place-none n [] h = refl
place-none n (m ∷ ns) h =
    let parts : ((m == n) ≡ false) × (is_in n ns ≡ false) = or_none (m == n) (is_in n ns) h in
    rw parts.0 (ap (λ k. 1 + k) (place-none n ns parts.1) ∙ omega arith)

-- one that is has a place within
place-some : (n : ℕ) (ns : List ℕ) → is_in n ns ≡ true → position_or_len (λ m. m == n) ns < length ns
place-some n [] h = absurd (false≢true h)
place-some n (m ∷ ns) h = elim (m == n) as (λ b. (m == n) ≡ b → position_or_len (λ k. k == n) (m ∷ ns) < length (m ∷ ns)) [
  | true ↦ λ e. rw e (omega arith)
  | false ↦ λ e. rw e (let later : position_or_len (λ k. k == n) ns < length ns = place-some n ns (rw e at h) in omega arith)
] refl

-- a number behind all others has the next number
pub number_in-pushed : (ns : List ℕ) (n : ℕ) → is_in n ns ≡ false → number_in (ns ++ n ∷ []) n ≡ length ns + 1
number_in-pushed ns n new =
    let here : position_or_len (λ m. m == n) ns ≡ length ns = place-none n ns new in
    let pushed : position_or_len (λ m. m == n) (ns ++ n ∷ []) ≡ cond (eqb (position_or_len (λ m. m == n) ns) (length ns)) (length ns + cond (n == n) 0 1) (position_or_len (λ m. m == n) ns) = position_or_len_push (λ m. m == n) ns n in
    ap (λ k. k + 1) (pushed ∙ rw (eq-eqb _ _ here) (rw (eq-eqb n n refl) (omega arith)))

-- and the others keep theirs
pub number_in-kept : (ns : List ℕ) (n other : ℕ) → is_in other ns ≡ true → number_in (ns ++ n ∷ []) other ≡ number_in ns other
number_in-kept ns n other there =
    let within : position_or_len (λ m. m == other) ns < length ns = place-some other ns there in
    let pushed : position_or_len (λ m. m == other) (ns ++ n ∷ []) ≡ cond (eqb (position_or_len (λ m. m == other) ns) (length ns)) (length ns + cond (n == other) 0 1) (position_or_len (λ m. m == other) ns) = position_or_len_push (λ m. m == other) ns n in
    ap (λ k. k + 1) (pushed ∙ rw (ne_eqb (position_or_len (λ m. m == other) ns) (length ns) (λ (e : position_or_len (λ m. m == other) ns ≡ length ns). omega arith)) refl)

pub not_in-pushed : (ns : List ℕ) (n other : ℕ) → is_in other ns ≡ false → (other ≡ n → ⊥) → is_in other (ns ++ n ∷ []) ≡ false
not_in-pushed ns n other absent apart = elim (cases_Bool (is_in other (ns ++ n ∷ []))) [
  | inr e ↦ e
  | inl found ↦ elim (is_in-cases other ns (n ∷ []) found) [
    | inl a ↦ absurd (both_ways (is_in other ns) absent a)
    | inr b ↦ elim (is_in-cons other n [] b) [ inl e ↦ absurd (apart (sym e)) | inr e ↦ absurd (false≢true e) ]
  ]
]
