-- What registers reach is neither free nor given up.
use Rattle.std.proofs.Common.{◌≡◌, inl, inr, ℕ, suc, ◌+◌, ◌-◌, ◌*◌, ◌%◌, ◌^◌, ◌<◌, true, false, Option, None, Some, List, [], ◌∷◌, map, drop, length, get_or, sym, ap, subst, ◌∙◌, arith}
use Rattle.std.proofs.lemmas.Bool.{false≢true}
use Rattle.std.proofs.lemmas.Bool.Decides.{nat_tests}
use Rattle.std.proofs.lemmas.List.{get_or-take, get_or-drop, length-take, length-drop, length-map}
use Rattle.std.proofs.lemmas.Nat.{div-mul-add}
use Rattle.std.proofs.Math.ListN.{get_or-map}
use Rattle.rec_model.proofs.Common.{target_of, predecessor, named, is_in, roots, Sight, words_of, targets_of, Reaches, node_of, home, Pending, word_in, is_dead, IsAccounted}
use Rattle.rec_model.specs.Seen.{IsSightOf}
use Rattle.rec_model.proofs.Within.{all_reached}
use Rattle.rec_model.proofs.Members.{is_in-cons}
use Rattle.rec_model.proofs.Consequences.{registers_name_the_taken, fields_name_the_taken}

-- what a list names stands in it
named_index : (n : ℕ) (xs : List (Option ℕ)) → is_in n (named xs) ≡ true → (i : ℕ) × (i < length xs) × (get_or xs i None ≡ Some n)
named_index n [] h = absurd (false≢true h)
named_index n (None ∷ xs) h = let r = named_index n xs h in (suc r.0, omega (arith, r.1), r.2)
named_index n (Some m ∷ xs) h = elim (is_in-cons n m (named xs) h) [
  | inl e ↦ (0, omega arith, ap Some e)
  | inr t ↦ let r = named_index n xs t in (suc r.0, omega (arith, r.1), r.2)
]

-- the node of a word with a target
target_node : (word n : ℕ) → target_of word ≡ Some n → node_of word ≡ n + 1
unfolding node_of
target_node word n e = go (word % 2 ^ 16) e
  where
    go : (k : ℕ) → predecessor k ≡ Some n → k ≡ n + 1
    go k e = grind (arith, nat_tests, e)

-- a target of a slot is that of a word in one of its fields
pub field_target : (w : Sight) (s n : ℕ) → is_in n (targets_of w s) ≡ true → (f : ℕ) × (f < w.fields) × (s * w.fields + f < length w.words) × (node_of (get_or w.words (s * w.fields + f) 0) ≡ n + 1)
field_target w s n there =
    let r = named_index n (map target_of (words_of w s)) there in
    let from : ℕ = s * w.fields in
    let many : ℕ = s * w.fields + w.fields - s * w.fields in
    let inside : r.0 < length (words_of w s) = omega (arith, r.1, length-map (words_of w s) target_of) in
    let below : r.0 < many = omega (arith, inside, length-take many (drop from w.words)) in
    let within : from + r.0 < length w.words = omega (arith, inside, length-take many (drop from w.words), length-drop from w.words) in
    let word : get_or (words_of w s) r.0 0 ≡ get_or w.words (from + r.0) 0 = get_or-take many (drop from w.words) r.0 0 below ∙ get_or-drop from w.words r.0 0 in
    let target : target_of (get_or w.words (from + r.0) 0) ≡ Some n = sym (ap target_of word) ∙ sym (get_or-map target_of (words_of w s) r.0 0) ∙ r.2 in
    (r.0, omega (arith, below), within, target_node (get_or w.words (from + r.0) 0) n target)

-- what registers reach is neither free nor given up
pub reached_taken : (w : Sight) (p : Pending) → IsAccounted p → IsSightOf w p → (slot : ℕ) → Reaches w slot → is_dead p (slot + 1) ≡ false
reached_taken w p i s = all_reached (λ slot. is_dead p (slot + 1) ≡ false) (roots w.registers) (targets_of w) at_root at_target
  where
    at_root : (slot : ℕ) → is_in slot (roots w.registers) ≡ true → is_dead p (slot + 1) ≡ false
    at_root slot there = let r = s.registers slot there in registers_name_the_taken p i r.0 (slot + 1) (omega arith) r.1

    alive : (x : ℕ) → is_dead p x ≡ false → p.released x ≡ false
    alive x e = grind (arith, e)

    at_target : (m n : ℕ) → Reaches w m → is_dead p (m + 1) ≡ false → is_in n (targets_of w m) ≡ true → is_dead p (n + 1) ≡ false
    at_target m n _ taken there =
        let t = field_target w m n there in
        let place : ℕ = m * w.fields + t.0 in
        let here : home p.fields place ≡ m + 1 = ap (λ k. home k place) s.fields ∙ ap (λ k. k + 1) (div-mul-add m w.fields t.0 t.1) in
        let word : word_in p place ≡ get_or w.words place 0 = ap (λ ws. get_or ws place 0) s.words in
        let node : node_of (word_in p place) ≡ n + 1 = ap node_of word ∙ t.3 in
        let inside : place < length p.words = omega (arith, t.2, ap (λ (ws : List ℕ). length ws) s.words) in
        let unreleased : p.released (home p.fields place) ≡ false = ap p.released here ∙ alive (m + 1) taken in
        subst (λ k. is_dead p k ≡ false) node (fields_name_the_taken p i place inside unreleased (omega (arith, node)))
