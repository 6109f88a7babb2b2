-- The listing that is read off the slots is that of every heap that stands for them; and a heap has one listing.
use Rattle.std.proofs.Common.{◌≡◌, inl, inr, ℕ, ◌+◌, List, [], ◌∷◌, ◌++◌, Bool, Option, None, Some, map, refl, sym, ◌∙◌, ap, arith}
use Rattle.std.specs.Prelude.{option_map, slice_index_or}
use Rattle.std.specs.List.{flat_map}
use Rattle.std.proofs.lemmas.Bool.{false≢true}
use Rattle.std.proofs.lemmas.List.{map-append}
use Rattle.std.proofs.lemmas.List.Elements.{All-map}
use Rattle.rec_model.proofs.Common.{target_of, named, IsReached, firsts, times, Heap, object, roots, children, count_of, IsListed, Sight, IsTaken, Reaches, NumbersSlots, holders_of, words_of, targets_of, field_of, StandsBy, Represents, IsCollected}
use Rattle.rec_word.specs.Header.{is_leaf, label_of, IsHeaderOf}
use Rattle.rec_model.specs.Reach.IsReached.{root, child}
use Rattle.rec_model.specs.Listing.{Row, number_in, row, IsListing, slot_row, ListsSlots}
use Rattle.rec_model.proofs.Members.{is_in-head, is_in-tail, is_in-cases, in_flat_map, of_all, all_of}
use Rattle.rec_model.proofs.Lives.{roots_same, children_same}
use Rattle.rec_model.proofs.Numbered.{one_numbering}
use Rattle.rec_model.proofs.Carried.{is_in-map, Each, firsts_after-map, number_in-map, times-map}

-- a heap has one listing
pub one_listing : (heap : Heap) (xs ys : List Row) → IsListing heap xs → IsListing heap ys → xs ≡ ys
one_listing heap xs ys (ns, lists, e) (ms, also, f) =
    e ∙ ap (λ ks. map (row heap ks) ks) (one_numbering (roots heap.registers) (children heap) ns ms lists also) ∙ sym f

-- a row with this label, leaf mark, count and fields
abbrev pub row_of : ℕ → Bool → ℕ → List (Option ℕ) → Row
row_of label leaf count fields = record { label = label; leaf = leaf; count = count; fields = fields }

module _ (heap : Heap) (w : Sight) (number : ℕ → ℕ) (stands : StandsBy heap w number) (collected : IsCollected w) where
  taken : (slot : ℕ) → Reaches w slot → IsTaken w slot
  taken slot = (collected slot).1

  reached_same : (slot : ℕ) → Reaches w slot → IsReached (roots heap.registers) (children heap) (number slot)
  reached_same slot (root n there) = root (number n) (rw (roots_same heap w number stands) (is_in-map number n (roots w.registers) there))
  reached_same slot (child m n from there) =
      child (number m) (number n) (reached_same m from) (rw (children_same heap w number stands m from) (is_in-map number n (targets_of w m) there))

  all_children_same : (slots : List ℕ) → Each (Reaches w) slots → flat_map (children heap) (map number slots) ≡ map number (flat_map (targets_of w) slots)
  all_children_same [] each = refl
  all_children_same (slot ∷ slots) each =
      ap (λ ns. ns ++ flat_map (children heap) (map number slots)) (children_same heap w number stands slot (each slot (is_in-head slot slots)))
      ∙ ap (λ ns. map number (targets_of w slot) ++ ns) (all_children_same slots (λ n h. each n (is_in-tail n slot slots h)))
      ∙ sym (map-append number (targets_of w slot) (flat_map (targets_of w) slots))

  roots_taken : Each (IsTaken w) (roots w.registers)
  roots_taken = λ n there. taken n (root n there)

  children_taken : (slots : List ℕ) → Each (Reaches w) slots → Each (IsTaken w) (flat_map (targets_of w) slots)
  children_taken slots each = λ n there. let (m, in_slots, named_there) = in_flat_map (targets_of w) n slots there in taken n (child m n (each m in_slots) named_there)

  both_taken : (xs ys : List ℕ) → Each (IsTaken w) xs → Each (IsTaken w) ys → Each (IsTaken w) (xs ++ ys)
  both_taken xs ys p q = λ n h. elim (is_in-cases n xs ys h) [ inl a ↦ p n a | inr b ↦ q n b ]

  -- the images of the slots in order are the numbering of the heap
  numbering_same : (slots : List ℕ) → NumbersSlots w slots → IsListed heap (map number slots)
  numbering_same slots numbers =
      let each : Each (Reaches w) slots = of_all (Reaches w) slots numbers.reached in
      record {
        order = ap (map number) numbers.order
            ∙ sym (firsts_after-map (IsTaken w) number stands.one_to_one [] (roots w.registers ++ flat_map (targets_of w) slots) (λ n h. absurd (false≢true h))
            (both_taken (roots w.registers) (flat_map (targets_of w) slots) roots_taken (children_taken slots each)))
            ∙ ap firsts (map-append number (roots w.registers) (flat_map (targets_of w) slots)
            ∙ ap (λ ns. ns ++ map number (flat_map (targets_of w) slots)) (sym (roots_same heap w number stands))
            ∙ ap (λ ns. roots heap.registers ++ ns) (sym (all_children_same slots each)));
        reached = All-map (IsReached (roots heap.registers) (children heap)) number slots
            (all_of (λ slot. IsReached (roots heap.registers) (children heap) (number slot)) slots (λ slot h. reached_same slot (each slot h)));
      }

  -- each image is held as often as its slot
  count_same : (slots : List ℕ) → Each (Reaches w) slots → (slot : ℕ) → IsTaken w slot → count_of heap (map number slots) (number slot) ≡ holders_of w slots slot
  count_same slots each slot held =
      ap (λ ns. times (number slot) ns + times (number slot) (flat_map (children heap) (map number slots))) (roots_same heap w number stands)
      ∙ ap (λ k. k + times (number slot) (flat_map (children heap) (map number slots))) (times-map (IsTaken w) number stands.one_to_one slot (roots w.registers) held roots_taken)
      ∙ ap (λ ns. times slot (roots w.registers) + times (number slot) ns) (all_children_same slots each)
      ∙ ap (λ k. times slot (roots w.registers) + k) (times-map (IsTaken w) number stands.one_to_one slot (flat_map (targets_of w) slots) held (children_taken slots each))

  -- what each field leads to has the same number
  numbers_same : (slots : List ℕ) → Each (IsTaken w) slots → (xs : List (Option ℕ)) → Each (IsTaken w) (named xs) → map (λ x. option_map (number_in (map number slots)) (option_map number x)) xs ≡ map (option_map (number_in slots)) xs
  numbers_same slots each [] held = refl
  numbers_same slots each (None ∷ xs) held = ap (λ ys. None ∷ ys) (numbers_same slots each xs held)
  numbers_same slots each (Some n ∷ xs) held =
      ap (λ k. Some k ∷ map (λ x. option_map (number_in (map number slots)) (option_map number x)) xs) (number_in-map (IsTaken w) number stands.one_to_one n slots (held n (is_in-head n (named xs))) each)
      ∙ ap (λ ys. Some (number_in slots n) ∷ ys) (numbers_same slots each xs (λ k h. held k (is_in-tail k n (named xs) h)))

  by_targets : (g : ℕ → ℕ) (words : List ℕ) → map (λ x. option_map g x.target) (map (field_of number) words) ≡ map (λ x. option_map g (option_map number x)) (map target_of words)
  by_targets g [] = refl
  by_targets g (word ∷ words) = ap (λ ys. option_map g (option_map number (target_of word)) ∷ ys) (by_targets g words)

  by_words : (g : ℕ → ℕ) (words : List ℕ) → map (option_map g) (map target_of words) ≡ map (λ word. option_map g (target_of word)) words
  by_words g [] = refl
  by_words g (word ∷ words) = ap (λ ys. option_map g (target_of word) ∷ ys) (by_words g words)

  fields_same : (slots : List ℕ) → Each (IsTaken w) slots → (words : List ℕ) → Each (IsTaken w) (named (map target_of words)) → map (λ x. option_map (number_in (map number slots)) x.target) (map (field_of number) words) ≡ map (λ word. option_map (number_in slots) (target_of word)) words
  fields_same slots each words held = by_targets (number_in (map number slots)) words ∙ numbers_same slots each (map target_of words) held ∙ by_words (number_in slots) words

  row_same : (slots : List ℕ) → Each (Reaches w) slots → (slot : ℕ) → Reaches w slot → row heap (map number slots) (number slot) ≡ slot_row w slots slot
  row_same slots each slot reached =
      let header : ℕ = slice_index_or w.headers slot 0 in
      let its : IsHeaderOf (object heap (number slot)).leaf (object heap (number slot)).label header = stands.header slot (taken slot reached) in
      let label : (object heap (number slot)).label ≡ label_of header = omega (arith, its.label) in
      ap (λ n. row_of n (object heap (number slot)).leaf (count_of heap (map number slots) (number slot)) (row heap (map number slots) (number slot)).fields) label
      ∙ ap (λ b. row_of (label_of header) b (count_of heap (map number slots) (number slot)) (row heap (map number slots) (number slot)).fields) (sym its.leaf)
      ∙ ap (λ n. row_of (label_of header) (is_leaf header) n (row heap (map number slots) (number slot)).fields) (count_same slots each slot (taken slot reached))
      ∙ ap (row_of (label_of header) (is_leaf header) (holders_of w slots slot)) (
      ap (map (λ x. option_map (number_in (map number slots)) x.target)) (stands.fields slot reached)
      ∙ fields_same slots (λ n h. taken n (each n h)) (words_of w slot) (λ n there. taken n (child slot n reached there)))

  rows_same : (slots some : List ℕ) → Each (Reaches w) slots → Each (Reaches w) some → map (row heap (map number slots)) (map number some) ≡ map (slot_row w slots) some
  rows_same slots [] each also = refl
  rows_same slots (slot ∷ some) each also =
      ap (λ r. r ∷ map (row heap (map number slots)) (map number some)) (row_same slots each slot (also slot (is_in-head slot some)))
      ∙ ap (λ rs. slot_row w slots slot ∷ rs) (rows_same slots some each (λ n h. also n (is_in-tail n slot some h)))

-- the rows read off the slots are the listing of every heap that stands for them
pub listing_carried : (heap : Heap) (w : Sight) (rows : List Row) → Represents heap w → IsCollected w → ListsSlots w rows → IsListing heap rows
listing_carried heap w rows (number, stands) collected (slots, numbers, e) =
    let each : Each (Reaches w) slots = of_all (Reaches w) slots numbers.reached in
    (map number slots, numbering_same heap w number stands collected slots numbers, e ∙ sym (rows_same heap w number stands collected slots slots each each))
