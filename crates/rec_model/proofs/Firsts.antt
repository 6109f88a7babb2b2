-- Where numbers first stand in a list: after more numbers, without repeats, and which numbers they are.
use Rattle.std.proofs.Common.{◌≡◌, ℕ, ◌⊎◌, inl, inr, true, false, List, [], ◌∷◌, ◌++◌, refl, sym, ◌∙◌, ap, append_assoc, append-nil}
use Rattle.std.proofs.lemmas.Bool.{false≢true}
use Rattle.rec_model.proofs.Common.{is_in, firsts_after, joined, IsDistinct}
use Rattle.rec_model.proofs.Members.{is_in-left, is_in-right, is_in-cases, is_in-cons, is_in-head, is_in-tail, IsDistinct-push, not_in-left}

-- a number that is met already is left out
pub joined-met : (met : List ℕ) (n : ℕ) (ns : List ℕ) → is_in n met ≡ true → joined met (n ∷ ns) ≡ joined met ns
joined-met met n ns h = rw h refl

-- a new number stands first
pub joined-new : (met : List ℕ) (n : ℕ) (ns : List ℕ) → is_in n met ≡ false → joined met (n ∷ ns) ≡ joined (met ++ n ∷ []) ns
joined-new met n ns h = rw h (sym (append_assoc met (n ∷ []) (firsts_after (met ++ n ∷ []) ns)))

-- more numbers join one after another
pub joined-append : (met xs ys : List ℕ) → joined met (xs ++ ys) ≡ joined (joined met xs) ys
joined-append met [] ys = ap (λ ms. joined ms ys) (sym (append-nil met))
joined-append met (x ∷ xs) ys = elim (is_in x met) as (λ b. is_in x met ≡ b → joined met (x ∷ xs ++ ys) ≡ joined (joined met (x ∷ xs)) ys) [
  | true ↦ λ h. joined-met met x (xs ++ ys) h ∙ joined-append met xs ys ∙ ap (λ ms. joined ms ys) (sym (joined-met met x xs h))
  | false ↦ λ h. joined-new met x (xs ++ ys) h ∙ joined-append (met ++ x ∷ []) xs ys ∙ ap (λ ms. joined ms ys) (sym (joined-new met x xs h))
] refl

-- What holds along the way holds at last: a fact that each new number keeps.
joined_keeps : (P : List ℕ → Type 0) (met ns : List ℕ) → ((ms : List ℕ) (n : ℕ) → is_in n ns ≡ true → is_in n ms ≡ false → P ms → P (ms ++ n ∷ [])) → P met → P (joined met ns)
joined_keeps P met [] keeps p = rw append-nil p
joined_keeps P met (n ∷ ns) keeps p = elim (is_in n met) as (λ b. is_in n met ≡ b → P (joined met (n ∷ ns))) [
  | true ↦ λ h. rw (joined-met met n ns h) (joined_keeps P met ns (λ ms m a. keeps ms m (is_in-tail m n ns a)) p)
  | false ↦ λ h. rw (joined-new met n ns h) (joined_keeps P (met ++ n ∷ []) ns (λ ms m a. keeps ms m (is_in-tail m n ns a)) (keeps met n (is_in-head n ns) h p))
] refl

-- joined lists have no repeats
pub IsDistinct-joined : (met ns : List ℕ) → IsDistinct met → IsDistinct (joined met ns)
IsDistinct-joined met ns d = joined_keeps IsDistinct met ns (λ ms n _ new p. IsDistinct-push ms n p new) d

-- each number of the two lists is in the joined one
pub is_in-joined : (n : ℕ) (met ns : List ℕ) → is_in n ns ≡ true → is_in n (joined met ns) ≡ true
is_in-joined n met [] h = absurd (false≢true h)
is_in-joined n met (m ∷ ns) h = elim (is_in m met) as (λ b. is_in m met ≡ b → is_in n (joined met (m ∷ ns)) ≡ true) [
  | true ↦ λ e. rw (joined-met met m ns e) (elim (is_in-cons n m ns h) [ inl same ↦ is_in-left n met (firsts_after met ns) (rw (← same) e) | inr later ↦ is_in-joined n met ns later ])
  | false ↦ λ e. rw (joined-new met m ns e) (elim (is_in-cons n m ns h) [
    | inl same ↦ is_in-left n (met ++ m ∷ []) (firsts_after (met ++ m ∷ []) ns) (is_in-right n met (m ∷ []) (rw (← same) (is_in-head m [])))
    | inr later ↦ is_in-joined n (met ++ m ∷ []) ns later
  ])
] refl

-- and it has no others
pub joined-cases : (n : ℕ) (met ns : List ℕ) → is_in n (joined met ns) ≡ true → (is_in n met ≡ true) ⊎ (is_in n ns ≡ true)
joined-cases n met ns = joined_keeps (λ ms. is_in n ms ≡ true → (is_in n met ≡ true) ⊎ (is_in n ns ≡ true)) met ns
    (λ ms m there _ p h. elim (is_in-cases n ms (m ∷ []) h) [
      | inl a ↦ p a
      | inr b ↦ elim (is_in-cons n m [] b) [ inl e ↦ inr (rw (← e) there) | inr none ↦ absurd (false≢true none) ]
    ])
    (λ h. inl h)

-- what joins was not met
pub firsts_after-only : (n : ℕ) (met ns : List ℕ) → is_in n (firsts_after met ns) ≡ true → is_in n met ≡ false
firsts_after-only n met [] h = absurd (false≢true h)
firsts_after-only n met (m ∷ ns) h = elim (is_in m met) as (λ b. is_in m met ≡ b → is_in n met ≡ false) [
  | true ↦ λ e. firsts_after-only n met ns (rw e at h)
  | false ↦ λ e. elim (is_in-cons n m (firsts_after (met ++ m ∷ []) ns) (rw e at h)) [
    | inl same ↦ rw (← same) e
    | inr later ↦ not_in-left n met (m ∷ []) (firsts_after-only n (met ++ m ∷ []) ns later)
  ]
] refl
