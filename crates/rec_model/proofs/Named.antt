-- What a list of registers or fields names, part by part.
use Rattle.std.proofs.Common.{zero, suc, ◌≡◌, ℕ, ◌+◌, ◌<◌, ◌++◌, Option, None, Some, true, List, [], ◌∷◌, take, length, get_or, refl, sym, ◌∙◌, ap, subst}
use Rattle.std.specs.Option.{IfSome}
use Rattle.std.proofs.lemmas.List.{take_more}
use Rattle.rec_model.proofs.Common.{named, is_in, joined}
use Rattle.rec_model.proofs.Members.{is_in-head, is_in-tail}
use Rattle.rec_model.proofs.Firsts.{joined-append}

pub named-append : (xs ys : List (Option ℕ)) → named (xs ++ ys) ≡ named xs ++ named ys
named-append [] ys = refl
named-append (None ∷ xs) ys = named-append xs ys
named-append (Some n ∷ xs) ys = ap (λ ns. n ∷ ns) (named-append xs ys)

-- the next name joins those before it
joined-next : (met : List ℕ) (xs : List (Option ℕ)) (i : ℕ) → i < length xs → joined (joined met (named (take i xs))) (named (get_or xs i None ∷ [])) ≡ joined met (named (take (i + 1) xs))
joined-next met xs i within =
    sym (joined-append met (named (take i xs)) (named (get_or xs i None ∷ [])))
    ∙ ap (joined met) (sym (named-append (take i xs) (get_or xs i None ∷ [])) ∙ ap named (sym (take_more xs i None within)))

-- the next name joins those before it: a step of a loop
pub joined-step : (first met more : List ℕ) (x : Option ℕ) (xs : List (Option ℕ)) (i : ℕ) → met ≡ joined first (named (take i xs)) → x ≡ get_or xs i None → i < length xs → more ≡ joined met (named (x ∷ [])) → more ≡ joined first (named (take (i + 1) xs))
joined-step first met more x xs i so_far at within e = e ∙ ap (λ y. joined met (named (y ∷ []))) at ∙ ap (λ ns. joined ns (named (get_or xs i None ∷ []))) so_far ∙ joined-next first xs i within

-- what one of them names, they all name
is_in-named : (n : ℕ) (xs : List (Option ℕ)) (i : ℕ) → get_or xs i None ≡ Some n → is_in n (named xs) ≡ true
is_in-named n [] i e = cc
is_in-named n (None ∷ xs) zero e = cc
is_in-named n (None ∷ xs) (suc i) e = is_in-named n xs i e
is_in-named n (Some m ∷ xs) zero e = let same : m ≡ n = cc in subst (λ k. is_in n (k ∷ named xs) ≡ true) (sym same) (is_in-head n (named xs))
is_in-named n (Some m ∷ xs) (suc i) e = is_in-tail n m (named xs) (is_in-named n xs i e)

pub named-at : (P : ℕ → Type 0) (xs : List (Option ℕ)) → ((n : ℕ) → is_in n (named xs) ≡ true → P n) → (i : ℕ) → IfSome (get_or xs i None) P
named-at P xs h i = at (get_or xs i None) refl
  where
    at : (x : Option ℕ) → get_or xs i None ≡ x → IfSome x P
    at None e = tt
    at (Some n) e = h n (is_in-named n xs i e)
