-- The slots that registers hold, a register more.
use Rattle.std.proofs.Common.{◌≡◌, ◌<◌, ◌≤◌, ◌+◌, ◌-◌, ℕ, true, false, cond, List, [], ◌∷◌, ◌++◌, length, get_or, take, map, filter, nat_lt, sym, ap, ◌∙◌, arith, append_assoc}
use Rattle.std.proofs.lemmas.List.{take_more, append-nil, map-append}
use Rattle.std.proofs.lemmas.List.Elements.{filter-append}
use Rattle.std.proofs.lemmas.Bool.Decides.{nat_tests}
use Rattle.rec_audit.specs.Graph.{held}

held-append : (xs ys : List ℕ) → held (xs ++ ys) ≡ held xs ++ held ys
held-append xs ys = ap (map (λ n. n - 1)) (filter-append (λ n. nat_lt 0 n) xs ys) ∙ map-append (λ (n : ℕ). n - 1) (filter (λ n. nat_lt 0 n) xs) (filter (λ n. nat_lt 0 n) ys)

some_test : (n : ℕ) → 0 < n → nat_lt 0 n ≡ true
some_test n some = grind (arith, nat_tests)

none_test : (n : ℕ) → n ≤ 0 → nat_lt 0 n ≡ false
none_test n none = grind (arith, nat_tests)

one_held : (n : ℕ) → 0 < n → held (n ∷ []) ≡ (n - 1) ∷ []
one_held n some = ap (λ b. map (λ (m : ℕ). m - 1) (cond b (n ∷ []) [])) (some_test n some)

none_held : (n : ℕ) → n ≤ 0 → held (n ∷ []) ≡ []
none_held n none = ap (λ b. map (λ (m : ℕ). m - 1) (cond b (n ∷ []) [])) (none_test n none)

pub held_more_yes : (ns named now next : List ℕ) (i : ℕ) → i < length ns → 0 < get_or ns i 0 → now ≡ named ++ held (take i ns) → next ≡ now ++ (get_or ns i 0 - 1) ∷ [] → next ≡ named ++ held (take (i + 1) ns)
held_more_yes ns named now next i within some is more =
    more
    ∙ ap (λ (t : List ℕ). t ++ (get_or ns i 0 - 1) ∷ []) is
    ∙ append_assoc named (held (take i ns)) ((get_or ns i 0 - 1) ∷ [])
    ∙ ap (λ (t : List ℕ). named ++ (held (take i ns) ++ t)) (sym (one_held (get_or ns i 0) some))
    ∙ ap (λ (t : List ℕ). named ++ t) (sym (held-append (take i ns) (get_or ns i 0 ∷ [])))
    ∙ ap (λ (t : List ℕ). named ++ held t) (sym (take_more ns i 0 within))

pub held_more_no : (ns named now : List ℕ) (i : ℕ) → i < length ns → get_or ns i 0 ≤ 0 → now ≡ named ++ held (take i ns) → now ≡ named ++ held (take (i + 1) ns)
held_more_no ns named now i within none is =
    is
    ∙ ap (λ (t : List ℕ). named ++ t) (sym (append-nil (held (take i ns))) ∙ ap (λ (t : List ℕ). held (take i ns) ++ t) (sym (none_held (get_or ns i 0) none)) ∙ sym (held-append (take i ns) (get_or ns i 0 ∷ [])))
    ∙ ap (λ (t : List ℕ). named ++ held t) (sym (take_more ns i 0 within))
