-- A one-to-one renaming carries first places, places and counts over.
use Rattle.std.proofs.Common.{◌≡◌, ◌==◌, inl, inr, ℕ, ◌+◌, true, false, cond, not, List, [], ◌∷◌, ◌++◌, Option, None, Some, map, refl, sym, ◌∙◌, ap, subst}
use Rattle.std.specs.Prelude.{option_map, ◌||◌}
use Rattle.std.specs.List.{flat_map, position_or_len}
use Rattle.std.proofs.lemmas.Bool.{cases_eq, eq-eqb, ne_eqb, false≢true}
use Rattle.std.proofs.lemmas.List.{map-append}
use Rattle.std.proofs.lemmas.List.Sums.{sum_by-cons}
use Rattle.rec_model.proofs.Common.{is_in, named, firsts_after, times}
use Rattle.rec_model.specs.Listing.{number_in}
use Rattle.rec_model.proofs.Members.{is_in-head, is_in-tail, is_in-cases, is_in-cons}

-- what the renamed registers name
pub named-map : (f : ℕ → ℕ) (xs : List (Option ℕ)) → named (map (option_map f) xs) ≡ map f (named xs)
named-map f [] = refl
named-map f (None ∷ xs) = named-map f xs
named-map f (Some n ∷ xs) = ap (λ ns. f n ∷ ns) (named-map f xs)

pub flat_map-named : (f : ℕ → ℕ) (rows : List (List (Option ℕ))) → flat_map named (map (map (option_map f)) rows) ≡ map f (flat_map named rows)
flat_map-named f [] = refl
flat_map-named f (xs ∷ rows) = ap (λ ns. ns ++ flat_map named (map (map (option_map f)) rows)) (named-map f xs) ∙ ap (λ ns. map f (named xs) ++ ns) (flat_map-named f rows) ∙ sym (map-append f (named xs) (flat_map named rows))

-- a number's image stands among the images
pub is_in-map : (f : ℕ → ℕ) (n : ℕ) (ns : List ℕ) → is_in n ns ≡ true → is_in (f n) (map f ns) ≡ true
is_in-map f n [] h = absurd (false≢true h)
is_in-map f n (m ∷ ns) h = elim (is_in-cons n m ns h) [
  | inl e ↦ subst (λ k. is_in (f n) (f k ∷ map f ns) ≡ true) (sym e) (is_in-head (f n) (map f ns))
  | inr later ↦ is_in-tail (f n) (f m) (map f ns) (is_in-map f n ns later)
]

-- and each image is that of a number there
pub in_map : (f : ℕ → ℕ) (n : ℕ) (ns : List ℕ) → is_in n (map f ns) ≡ true → (m : ℕ) × (is_in m ns ≡ true) × (f m ≡ n)
in_map f n [] h = absurd (false≢true h)
in_map f n (m ∷ ns) h = elim (is_in-cons n (f m) (map f ns) h) [
  | inl e ↦ (m, is_in-head m ns, e)
  | inr later ↦ let (k, there, is) = in_map f n ns later in (k, is_in-tail k m ns there, is)
]

-- a renaming that is one to one on what has P
abbrev IsOneToOne : (P : ℕ → Type 0) → (ℕ → ℕ) → Type 0
IsOneToOne P f = (m n : ℕ) → P m → P n → f m ≡ f n → m ≡ n

abbrev pub Each : (P : ℕ → Type 0) → List ℕ → Type 0
Each P ns = (n : ℕ) → is_in n ns ≡ true → P n

eqb-map : (P : ℕ → Type 0) (f : ℕ → ℕ) → IsOneToOne P f → (m n : ℕ) → P m → P n → (f m == f n) ≡ (m == n)
eqb-map P f one m n p q = elim (cases_eq m n) [
  | inl e ↦ eq-eqb (f m) (f n) (ap f e) ∙ sym (eq-eqb m n e)
  | inr apart ↦ ne_eqb (f m) (f n) (λ e. apart (one m n p q e)) ∙ sym (ne_eqb m n apart)
]

is_in-same : (P : ℕ → Type 0) (f : ℕ → ℕ) → IsOneToOne P f → (n : ℕ) (ns : List ℕ) → P n → Each P ns → is_in (f n) (map f ns) ≡ is_in n ns
is_in-same P f one n [] p each = refl
is_in-same P f one n (m ∷ ns) p each =
    ap (λ b. b || is_in (f n) (map f ns)) (eqb-map P f one m n (each m (is_in-head m ns)) p)
    ∙ ap (λ b. (m == n) || b) (is_in-same P f one n ns p (λ k h. each k (is_in-tail k m ns h)))

-- the first places of the images are those of the numbers
pub firsts_after-map : (P : ℕ → Type 0) (f : ℕ → ℕ) → IsOneToOne P f → (met ns : List ℕ) → Each P met → Each P ns → firsts_after (map f met) (map f ns) ≡ map f (firsts_after met ns)
firsts_after-map P f one met [] met_each each = refl
firsts_after-map P f one met (n ∷ ns) met_each each = elim (is_in n met) as (λ b. is_in n met ≡ b → firsts_after (map f met) (map f (n ∷ ns)) ≡ map f (firsts_after met (n ∷ ns))) [
  | true ↦ λ h. rw (same ∙ h) (rw h (firsts_after-map P f one met ns met_each later))
  | false ↦ λ h. rw (same ∙ h) (rw h (ap (λ ms. f n ∷ ms) (
      ap (λ ms. firsts_after ms (map f ns)) (sym (map-append f met (n ∷ [])))
      ∙ firsts_after-map P f one (met ++ n ∷ []) ns more later)))
] refl
  where
    same : is_in (f n) (map f met) ≡ is_in n met
    same = is_in-same P f one n met (each n (is_in-head n ns)) met_each

    later : Each P ns
    later = λ k h. each k (is_in-tail k n ns h)

    more : Each P (met ++ n ∷ [])
    more = λ k h. elim (is_in-cases k met (n ∷ []) h) [
      | inl a ↦ met_each k a
      | inr b ↦ elim (is_in-cons k n [] b) [ inl e ↦ subst P e (each n (is_in-head n ns)) | inr none ↦ absurd (false≢true none) ]
    ]

-- a number's image has its number
pub number_in-map : (P : ℕ → Type 0) (f : ℕ → ℕ) → IsOneToOne P f → (n : ℕ) (ns : List ℕ) → P n → Each P ns → number_in (map f ns) (f n) ≡ number_in ns n
number_in-map P f one n ns p each = ap (λ k. k + 1) (place ns each)
  where
    place : (ms : List ℕ) → Each P ms → position_or_len (λ m. m == f n) (map f ms) ≡ position_or_len (λ m. m == n) ms
    place [] h = refl
    place (m ∷ ms) h =
        ap (λ b. cond (not b) (1 + position_or_len (λ k. k == f n) (map f ms)) 0) (eqb-map P f one m n (h m (is_in-head m ms)) p)
        ∙ ap (λ k. cond (not (m == n)) (1 + k) 0) (place ms (λ k e. h k (is_in-tail k m ms e)))

-- and stands as often
pub times-map : (P : ℕ → Type 0) (f : ℕ → ℕ) → IsOneToOne P f → (n : ℕ) (ns : List ℕ) → P n → Each P ns → times (f n) (map f ns) ≡ times n ns
times-map P f one n [] p each = refl
times-map P f one n (m ∷ ns) p each =
    sum_by-cons (λ k. cond (k == f n) 1 0) (f m) (map f ns)
    ∙ ap (λ b. cond b 1 0 + times (f n) (map f ns)) (eqb-map P f one m n (each m (is_in-head m ns)) p)
    ∙ ap (λ k. cond (m == n) 1 0 + k) (times-map P f one n ns p (λ k h. each k (is_in-tail k m ns h)))
    ∙ sym (sum_by-cons (λ k. cond (k == n) 1 0) m ns)
