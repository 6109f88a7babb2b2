-- Slots that join a list one after another: those of chunks, those that the fields of slots lead to, and those that weren't found yet.
use Rattle.std.proofs.Common.{◌≡◌, inl, inr, ℕ, zero, suc, ◌+◌, ◌-◌, ◌*◌, ◌<◌, ◌≤◌, ◌++◌, true, false, not, List, [], ◌∷◌, take, drop, length, get_or, refl, sym, ap, subst, ◌∙◌, arith, append-nil}
use Rattle.std.specs.List.{flat_map}
use Rattle.std.proofs.lemmas.Bool.{cases_Bool}
use Rattle.std.proofs.lemmas.Grind.{flat_map-append}
use Rattle.std.proofs.lemmas.List.{get_or-drop, get_or_append_left, take_more, take-append-drop, length-drop}
use Rattle.std.proofs.lemmas.List.Elements.{All-get_or, filter-append}
use Rattle.std.proofs.Math.Nat.{mul-le-mul_right}
use Rattle.rec_model.specs.Reach.{is_in}
use Rattle.rec_model.specs.Numbering.{firsts_after, joined}
use Rattle.rec_model.proofs.Firsts.{joined-append}
use Rattle.rec_model.proofs.Members.{all_of, in_flat_map, is_in-head, is_in-left, is_in-right, is_in-tail, is_in-cons}
use Rattle.rec_trace.specs.Children.{children, all_children, unmet, AreBelow, AreFieldsOf}

-- what each number of a list has, the one at a place has
pub at_place : (P : ℕ → Type 0) (ns : List ℕ) → ((n : ℕ) → is_in n ns ≡ true → P n) → (i d : ℕ) → i < length ns → P (get_or ns i d)
at_place P ns each i d lt = All-get_or P ns i d lt (all_of P ns each)

-- the fields of a slot stand among the words
pub fields_there : (slots : ℕ) (words : List ℕ) (fields slot : ℕ) → AreFieldsOf slots words fields → slot < slots → slot * fields + fields ≤ length words
fields_there slots words fields slot are lt =
    let more : slot + 1 ≤ slots = omega arith in
    let e : (slot + 1) * fields ≤ slots * fields = mul-le-mul_right fields more in
    omega (arith, e, are.places)

-- pieces of one list side by side are a front of it: one piece more
pub pieces_more : {X : Type 0} (f : X → List ℕ) (xs : List X) (i : ℕ) (d : X) → i < length xs → flat_map f (take (i + 1) xs) ≡ flat_map f (take i xs) ++ f (get_or xs i d)
pieces_more f xs i d lt =
    ap (flat_map f) (take_more xs i d lt) ∙ flat_map-append f (take i xs) (get_or xs i d ∷ []) ∙ ap (λ ns. flat_map f (take i xs) ++ ns) (append-nil (f (get_or xs i d)))

-- one piece more joins
pub joined_more : {X : Type 0} (f : X → List ℕ) (first met more : List ℕ) (xs : List X) (i : ℕ) (d : X) → met ≡ joined first (flat_map f (take i xs)) → i < length xs → more ≡ joined met (f (get_or xs i d)) → more ≡ joined first (flat_map f (take (i + 1) xs))
joined_more f first met more xs i d so_far lt e =
    e ∙ ap (λ ns. joined ns (f (get_or xs i d))) so_far ∙ sym (joined-append first (flat_map f (take i xs)) (f (get_or xs i d))) ∙ ap (joined first) (sym (pieces_more f xs i d lt))

-- each number of a piece is one of all
pub in_piece : {X : Type 0} (f : X → List ℕ) (xs : List X) (i : ℕ) (d : X) (n : ℕ) → i < length xs → is_in n (f (get_or xs i d)) ≡ true → is_in n (flat_map f xs) ≡ true
in_piece f [] i d n lt there = absurd (omega (arith, lt))
in_piece f (x ∷ xs) zero d n lt there = is_in-left n (f x) (flat_map f xs) there
in_piece f (x ∷ xs) (suc i) d n lt there = is_in-right n (f x) (flat_map f xs) (in_piece f xs i d n (omega (arith, lt)) there)

-- each number of a part of a list stands in it
pub in_part : (from many : ℕ) (ns : List ℕ) (n : ℕ) → is_in n (take many (drop from ns)) ≡ true → is_in n ns ≡ true
in_part from many ns n there =
    let rest : List ℕ = drop from ns in
    let behind : is_in n rest ≡ true = subst (λ ms. is_in n ms ≡ true) (take-append-drop many rest) (is_in-left n (take many rest) (drop many rest) there) in
    subst (λ ms. is_in n ms ≡ true) (take-append-drop from ns) (is_in-right n (take from ns) rest behind)

-- what isn't found yet of two lists
pub unmet-append : (found xs ys : List ℕ) → unmet found (xs ++ ys) ≡ unmet found xs ++ unmet found ys
unmet-append found xs ys = filter-append (λ slot. not (is_in slot found)) xs ys

-- it stands in the list
pub in_unmet : (found ns : List ℕ) (n : ℕ) → is_in n (unmet found ns) ≡ true → is_in n ns ≡ true
in_unmet found [] n there = there
in_unmet found (m ∷ ns) n there = elim (cases_Bool (is_in m found)) [
  | inl met ↦ is_in-tail n m ns (in_unmet found ns n (rw met at there))
  | inr new ↦ elim (is_in-cons n m (unmet found ns) (rw new at there)) [
    | inl same ↦ subst (λ k. is_in n (k ∷ ns) ≡ true) (sym same) (is_in-head n ns)
    | inr later ↦ is_in-tail n m ns (in_unmet found ns n later)
  ]
]

-- what is found already joins no more
joined_found : (met : List ℕ) (n : ℕ) → is_in n met ≡ true → joined met (n ∷ []) ≡ met
joined_found met n there = rw there (append-nil met)

-- so a list joins as what isn't found yet of it does
pub joined_unmet : (found met ns : List ℕ) → ((n : ℕ) → is_in n found ≡ true → is_in n met ≡ true) → joined met (unmet found ns) ≡ joined met ns
joined_unmet found met [] within = refl
joined_unmet found met (m ∷ ns) within = elim (cases_Bool (is_in m found)) [
  | inl there ↦
      ap (joined met) (dropped there)
      ∙ joined_unmet found met ns within
      ∙ ap (λ ms. joined ms ns) (sym (joined_found met m (within m there)))
      ∙ sym (joined-append met (m ∷ []) ns)
  | inr new ↦
      ap (joined met) (kept new)
      ∙ joined-append met (m ∷ []) (unmet found ns)
      ∙ joined_unmet found (joined met (m ∷ [])) ns (λ n h. is_in-left n met (firsts_after met (m ∷ [])) (within n h))
      ∙ sym (joined-append met (m ∷ []) ns)
]
  where
    dropped : is_in m found ≡ true → unmet found (m ∷ ns) ≡ unmet found ns
    dropped there = rw there refl

    kept : is_in m found ≡ false → unmet found (m ∷ ns) ≡ m ∷ unmet found ns
    kept new = rw new refl

-- of what slots' fields lead to, each is one of the slots that there are
pub children_below : (slots : ℕ) (words : List ℕ) (fields : ℕ) (some : List ℕ) → AreFieldsOf slots words fields → AreBelow slots (all_children words fields some)
children_below slots words fields some are n there = let (s, in_some, named_there) = in_flat_map (children words fields) n some there in are.leads s n named_there

-- one number more joins
pub joined_next : (first met more xs : List ℕ) (i d : ℕ) → met ≡ joined first (take i xs) → i < length xs → more ≡ joined met (get_or xs i d ∷ []) → more ≡ joined first (take (i + 1) xs)
joined_next first met more xs i d so_far lt e =
    e ∙ ap (λ ns. joined ns (get_or xs i d ∷ [])) so_far ∙ sym (joined-append first (take i xs) (get_or xs i d ∷ [])) ∙ ap (joined first) (sym (take_more xs i d lt))

-- A list that has grown has the slot at a place that it had before, and that slot is one of the frontier.
pub slot_kept : (old now more : List ℕ) (i : ℕ) → now ≡ joined old more → i < length old → get_or now i 0 ≡ get_or old i 0
slot_kept old now more i grown lt = ap (λ ns. get_or ns i 0) grown ∙ get_or_append_left old (firsts_after old more) 0 i lt

pub slot_left : (old : List ℕ) (first i : ℕ) → first ≤ i → get_or old i 0 ≡ get_or (drop first old) (i - first) 0
slot_left old first i from =
    let at : i ≡ first + (i - first) = omega arith in
    ap (λ k. get_or old k 0) at ∙ sym (get_or-drop first old (i - first) 0)

-- there are as many left of the frontier
pub frontier_left : (old : List ℕ) (first i : ℕ) → first ≤ i → i < length old → i - first < length (drop first old)
frontier_left old first i from lt = omega (arith, length-drop first old)
