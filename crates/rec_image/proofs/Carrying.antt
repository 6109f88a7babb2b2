-- The slots of a settled world, numbered as a listing numbers them, make an image that stands for it.
use Rattle.std.proofs.Common.{◌≡◌, ℕ, zero, suc, ◌+◌, ◌<◌, inl, inr, Bool, true, cond, not, List, [], ◌∷◌, ◌++◌, Option, length, map, get_or, refl, sym, ap, subst, ◌∙◌, arith}
use Rattle.std.specs.Prelude.{option_map}
use Rattle.std.specs.List.{flat_map, range_with_len}
use Rattle.std.proofs.lemmas.Bool.{cases_eq, eq-eqb, ne_eqb, both_ways, false≢true}
use Rattle.std.proofs.lemmas.List.{length-map, map-append}
use Rattle.std.proofs.lemmas.List.Elements.{All-map}
use Rattle.std.proofs.lemmas.List.FromFn.{length-range_with_len, get_or-range_with_len}
use Rattle.rec_word.specs.Word.{target_of}
use Rattle.rec_model.proofs.Common.{IsDistinct, IsNumbering, IsReached, firsts, is_in, named, roots}
use Rattle.rec_model.specs.Reach.IsReached.{root, child}
use Rattle.rec_model.proofs.Carried.{Each, firsts_after-map, flat_map-named, is_in-map, named-map}
use Rattle.rec_model.proofs.Members.{all_of, is_in-cases, is_in-cons, is_in-head, is_in-tail, in_flat_map, is_in-at}
use Rattle.rec_model.proofs.Numbered.{lists_reached, numbering_distinct}
use Rattle.rec_model.specs.Sight.{Sight, Reaches, NumbersSlots, targets_of, words_of}
use Rattle.rec_image.specs.Image.{Node, children, nothing}
use Rattle.rec_image.specs.Standing.{place_in, node_of, held_of}

-- ---- places in a list without repeats

pub here : (n : ℕ) (ns : List ℕ) → place_in (n ∷ ns) n ≡ 0
here n ns = ap (λ (b : Bool). cond (not b) (1 + place_in ns n) 0) (eq-eqb n n refl)

pub later : (n m : ℕ) (ns : List ℕ) → (m ≡ n → ⊥) → place_in (m ∷ ns) n ≡ suc (place_in ns n)
later n m ns apart = ap (λ (b : Bool). cond (not b) (1 + place_in ns n) 0) (ne_eqb m n apart) ∙ (let e : 1 + place_in ns n ≡ suc (place_in ns n) = omega arith in e)

-- the number at a place has that place
pub place_at : (ns : List ℕ) (k : ℕ) → IsDistinct ns → k < length ns → place_in ns (get_or ns k 0) ≡ k
place_at [] k d lt = absurd (omega arith)
place_at (n ∷ ns) zero d lt = here n ns
place_at (n ∷ ns) (suc k) d lt =
    later (get_or ns k 0) n ns (λ e. both_ways (is_in n ns) d.0 (subst (λ (m : ℕ). is_in m ns ≡ true) (sym e) (is_in-at ns k (omega arith))))
    ∙ ap suc (place_at ns k d.1 (omega arith))

-- a number in the list stands at its place
pub at_place : (ns : List ℕ) (n : ℕ) → is_in n ns ≡ true → (place_in ns n < length ns) × (get_or ns (place_in ns n) 0 ≡ n)
at_place [] n h = absurd (false≢true h)
at_place (m ∷ ns) n h = elim (cases_eq m n) [
  | inl e ↦ let z : place_in (m ∷ ns) n ≡ 0 = subst (λ (k : ℕ). place_in (k ∷ ns) n ≡ 0) (sym e) (here n ns) in
      (omega arith, ap (λ (i : ℕ). get_or (m ∷ ns) i 0) z ∙ e)
  | inr apart ↦ elim (is_in-cons n m ns h) [
    | inl e ↦ absurd (apart e)
    | inr there ↦ let so = at_place ns n there in let s : place_in (m ∷ ns) n ≡ suc (place_in ns n) = later n m ns apart in
        (omega (arith, so.0), ap (λ (i : ℕ). get_or (m ∷ ns) i 0) s ∙ so.1)
  ]
]

-- so the places are the numbers from 0 on
places : (ns : List ℕ) → IsDistinct ns → map (place_in ns) ns ≡ range_with_len 0 (length ns)
places ns d = same (map (place_in ns) ns) (range_with_len 0 (length ns)) (length-map ns (place_in ns) ∙ sym (length-range_with_len 0 (length ns))) (λ k lt.
    let within : k < length ns = omega (arith, length-map ns (place_in ns)) in
    mapped ns k within ∙ place_at ns k d within ∙ (let e : k ≡ 0 + k = omega arith in e) ∙ sym (get_or-range_with_len 0 (length ns) k 0 within))
  where
    same : (xs ys : List ℕ) → length xs ≡ length ys → ((k : ℕ) → k < length xs → get_or xs k 0 ≡ get_or ys k 0) → xs ≡ ys
    same [] [] e h = refl
    same [] (y ∷ ys) e h = absurd (omega arith)
    same (x ∷ xs) [] e h = absurd (omega arith)
    same (x ∷ xs) (y ∷ ys) e h = let first : x ≡ y = h 0 (omega arith) in let rest : xs ≡ ys = same xs ys (omega arith) (λ k lt. h (suc k) (omega arith)) in cc

    mapped : (xs : List ℕ) (k : ℕ) → k < length xs → get_or (map (place_in ns) xs) k 0 ≡ place_in ns (get_or xs k 0)
    mapped [] k lt = absurd (omega arith)
    mapped (x ∷ xs) zero lt = refl
    mapped (x ∷ xs) (suc k) lt = mapped xs k (omega arith)

pub place_one : (ns : List ℕ) (m n : ℕ) → is_in m ns ≡ true → is_in n ns ≡ true → place_in ns m ≡ place_in ns n → m ≡ n
place_one ns m n a b e = sym (at_place ns m a).1 ∙ ap (λ (i : ℕ). get_or ns i 0) e ∙ (at_place ns n b).1

-- ---- the objects of the slots

module _ (w : Sight) (slots : List ℕ) (numbers : NumbersSlots w slots) where
  -- the object of a listed slot
  pub object_at : (slot : ℕ) → is_in slot slots ≡ true → get_or (map (node_of w slots) slots) (place_in slots slot) nothing ≡ node_of w slots slot
  object_at slot there =
      let so = at_place slots slot there in
      mapped slots (place_in slots slot) so.0 ∙ ap (node_of w slots) so.1
    where
      mapped : (xs : List ℕ) (k : ℕ) → k < length xs → get_or (map (node_of w slots) xs) k nothing ≡ node_of w slots (get_or xs k 0)
      mapped [] k lt = absurd (omega arith)
      mapped (x ∷ xs) zero lt = refl
      mapped (x ∷ xs) (suc k) lt = mapped xs k (omega arith)

  listed : (slot : ℕ) → Reaches w slot → is_in slot slots ≡ true
  listed slot reached = (lists_reached (roots w.registers) (targets_of w) slots numbers slot).0 reached

  reached : (slot : ℕ) → is_in slot slots ≡ true → Reaches w slot
  reached slot there = (lists_reached (roots w.registers) (targets_of w) slots numbers slot).1 there

  fields_named : (words : List ℕ) → named (map (λ word. option_map (place_in slots) (target_of word)) words) ≡ map (place_in slots) (named (map target_of words))
  fields_named words = ap named (twice words) ∙ named-map (place_in slots) (map target_of words)
    where
      twice : (words : List ℕ) → map (λ word. option_map (place_in slots) (target_of word)) words ≡ map (option_map (place_in slots)) (map target_of words)
      twice [] = refl
      twice (word ∷ words) = ap (λ (xs : List (Option ℕ)). option_map (place_in slots) (target_of word) ∷ xs) (twice words)

  children_at : (slot : ℕ) → is_in slot slots ≡ true → children (map (node_of w slots) slots) (place_in slots slot) ≡ map (place_in slots) (targets_of w slot)
  children_at slot there = ap (λ (node : Node). named node.fields) (object_at slot there) ∙ fields_named (words_of w slot)

  all_children : (some : List ℕ) → Each (λ s. is_in s slots ≡ true) some → flat_map (children (map (node_of w slots) slots)) (map (place_in slots) some) ≡ map (place_in slots) (flat_map (targets_of w) some)
  all_children [] each = refl
  all_children (slot ∷ some) each =
      ap (λ (ns : List ℕ). ns ++ flat_map (children (map (node_of w slots) slots)) (map (place_in slots) some)) (children_at slot (each slot (is_in-head slot some)))
      ∙ ap (λ (ns : List ℕ). map (place_in slots) (targets_of w slot) ++ ns) (all_children some (λ n h. each n (is_in-tail n slot some h)))
      ∙ sym (map-append (place_in slots) (targets_of w slot) (flat_map (targets_of w) some))

  reached_same : (slot : ℕ) → Reaches w slot → IsReached (roots (held_of w slots)) (children (map (node_of w slots) slots)) (place_in slots slot)
  reached_same slot (root n there) = root (place_in slots n) (subst (λ (ns : List ℕ). is_in (place_in slots n) ns ≡ true) (sym (flat_map-named (place_in slots) w.registers)) (is_in-map (place_in slots) n (roots w.registers) there))
  reached_same slot (child m n from there) =
      child (place_in slots m) (place_in slots n) (reached_same m from) (subst (λ (ns : List ℕ). is_in (place_in slots n) ns ≡ true) (sym (children_at m (listed m from))) (is_in-map (place_in slots) n (targets_of w m) there))

  -- they are numbered as a listing numbers them
  pub numbered : IsNumbering (roots (held_of w slots)) (children (map (node_of w slots) slots)) (range_with_len 0 (length slots))
  numbered =
      let all : List ℕ = roots w.registers ++ flat_map (targets_of w) slots in
      let in_slots : Each (λ s. is_in s slots ≡ true) (roots w.registers ++ flat_map (targets_of w) slots) = (λ n h. elim (is_in-cases n (roots w.registers) (flat_map (targets_of w) slots) h) [
        | inl a ↦ listed n (root n a)
        | inr b ↦ let (m, from, there) = in_flat_map (targets_of w) n slots b in listed n (child m n (reached m from) there)
      ]) in
      subst (IsNumbering (roots (held_of w slots)) (children (map (node_of w slots) slots))) (places slots (numbering_distinct (roots w.registers) (targets_of w) slots numbers)) (record {
        order = ap (map (place_in slots)) numbers.order
            ∙ sym (firsts_after-map (λ s. is_in s slots ≡ true) (place_in slots) (λ m n a b e. place_one slots m n a b e) [] (roots w.registers ++ flat_map (targets_of w) slots) (λ n h. absurd (false≢true h)) in_slots)
            ∙ ap firsts (map-append (place_in slots) (roots w.registers) (flat_map (targets_of w) slots)
            ∙ ap (λ (ns : List ℕ). ns ++ map (place_in slots) (flat_map (targets_of w) slots)) (sym (flat_map-named (place_in slots) w.registers))
            ∙ ap (λ (ns : List ℕ). roots (held_of w slots) ++ ns) (sym (all_children slots (λ n h. h))));
        reached = All-map (IsReached (roots (held_of w slots)) (children (map (node_of w slots) slots))) (place_in slots) slots
            (all_of (λ s. IsReached (roots (held_of w slots)) (children (map (node_of w slots) slots)) (place_in slots s)) slots (λ s h. reached_same s (reached s h)));
      })
