-- The part of a list between two places.
use Rattle.std.proofs.Common.{◌≡◌, ℕ, ◌+◌, ◌-◌, ◌<◌, ◌≤◌, List, [], ◌∷◌, ◌++◌, length, take, drop, arith, sym, ◌∙◌, ap}
use Rattle.std.proofs.Math.ListN.{set}
use Rattle.std.proofs.lemmas.List.{drop-take, drop-drop, drop-set-add, take_more_set, length-drop, length-take-le, drop-append-le}

-- without its first
pub window_rest : (xs : List ℕ) (h e : ℕ) → h < e → take (e - (h + 1)) (drop (h + 1) xs) ≡ drop 1 (take (e - h) (drop h xs))
window_rest xs h e l =
    let a : e - h ≡ 1 + (e - (h + 1)) = omega arith in
    rw a (sym (drop-take 1 (e - (h + 1)) (drop h xs) ∙ ap (take (e - (h + 1))) (drop-drop 1 h xs)))

-- with one more at its end
pub window_push : (xs : List ℕ) (h e v : ℕ) → h ≤ e → e < length xs → take (e + 1 - h) (drop h (set xs e v)) ≡ take (e - h) (drop h xs) ++ v ∷ []
window_push xs h e v l r =
    let a : e ≡ h + (e - h) = omega arith in
    let b : e + 1 - h ≡ e - h + 1 = omega arith in
    let n : e - h < length (drop h xs) = omega (arith, length-drop h xs) in
    let s : drop h (set xs e v) ≡ set (drop h xs) (e - h) v = ap (λ i. drop h (set xs i v)) a ∙ drop-set-add h xs (e - h) v in
    rw (b, s) (take_more_set (drop h xs) (e - h) v n)

-- with more at its end
pub window_more : (xs ys more : List ℕ) (h e : ℕ) → h ≤ e → e ≤ length xs → take (e + length more) ys ≡ take e xs ++ more → take (e + length more - h) (drop h ys) ≡ take (e - h) (drop h xs) ++ more
window_more xs ys more h e l r w =
    let a : h + (e + length more - h) ≡ e + length more = omega (arith, l) in
    let b : h + (e - h) ≡ e = omega (arith, l) in
    let n : h ≤ length (take e xs) = omega (arith, l, r, length-take-le e xs r) in
    sym (drop-take h (e + length more - h) ys) ∙ ap (λ k. drop h (take k ys)) a ∙ ap (drop h) w ∙ drop-append-le h (take e xs) more n
    ∙ ap (λ k. drop h (take k xs) ++ more) (sym b) ∙ ap (λ zs. zs ++ more) (drop-take h (e - h) xs)
