-- What stood for a world stands for the heap that is restored from its image.
use Rattle.std.proofs.Common.{◌≡◌, ℕ, suc, ◌+◌, ◌<◌, ◌≤◌, Bool, true, false, List, [], ◌∷◌, Option, None, Some, All, length, map, get_or, refl, sym, ap, subst, ◌∙◌, arith, inl, inr, nat_lt, ◌||◌}
use Rattle.std.specs.Prelude.{option_map}
use Rattle.std.specs.List.{range_with_len}
use Rattle.std.proofs.lemmas.Bool.{both_ways, cases_eq, cases_lt, le-ltb, lt-ltb, ne_eqb}
use Rattle.std.proofs.lemmas.List.{get_or-map, get_or_past, length-map}
use Rattle.std.proofs.lemmas.List.Elements.{All-cons, All-from_get_or, All-get_or, All-head, All-nil, All-tail}
use Rattle.std.proofs.lemmas.List.FromFn.{get_or-range_with_len, length-range_with_len}
use Rattle.rec_collector.specs.declared.policy.Policy.{Policy}
use Rattle.rec_word.specs.Header.{IsHeaderOf, IsTakenHeader}
use Rattle.rec_word.specs.Word.{target_of}
use Rattle.rec_model.specs.Heap.{Field, Heap, Object, nothing as no_object, object, roots}
use Rattle.rec_model.specs.Numbering.{IsDistinct}
use Rattle.rec_model.specs.Reach.{is_in, named}
use Rattle.rec_model.specs.Reach.IsReached.{child, root}
use Rattle.rec_model.specs.Sight.{IsTaken, NumbersSlots, Reaches, Represents, StandsBy, field_of, targets_of, words_of}
use Rattle.rec_model.proofs.Members.{is_in-head, is_in-left, is_in-right, is_in-tail, is_in-at}
use Rattle.rec_model.proofs.Numbered.{lists_reached, numbering_distinct}
use Rattle.rec_model.proofs.Standing.{reached_is_taken}
use Rattle.rec_core.specs.Config.{IsConfig}
use Rattle.rec_core.specs.Core.{Core, sight}
use Rattle.rec_core.proofs.OpenedFromSeen as seen
use Rattle.rec_world.specs.World.{IsWorld}
use Rattle.rec_image.specs.Image.{AreRegisters, ImageContents, IsImage, IsNode, Node, nothing}
use Rattle.rec_image.specs.Renewed.{AgreeButWords, IsRenewed, IsSlots, in_slots, targets}
use Rattle.rec_image.specs.Restored.{config_of, mark_of, objects_in, restored}
use Rattle.rec_image.specs.Standing.{IsImageOf, StandsFor, image_of, node_of, place_in}
use Rattle.rec_image.specs.Standing as images
use Rattle.rec_image.proofs.Carrying.{at_place, here, later, place_at}
use Rattle.rec_image.proofs.Restoring.{all_named, are_objects, below_reached, have_labels, nodes_many, reached_below, restored_by}
use Rattle.rec_image.proofs.Returning.{image_again}
use Rattle.rec_image.proofs.Worlds.{few_listed, header, is_image, two_maps, same_map}

-- ---- numbers of numbers
maps_one : (f g h : ℕ → ℕ) (xs : List (Option ℕ)) → ((n : ℕ) → is_in n (named xs) ≡ true → f (g n) ≡ h n) → map (option_map f) (map (option_map g) xs) ≡ map (option_map h) xs
maps_one f g h [] each = refl
maps_one f g h (None ∷ xs) each = ap (λ (ys : List (Option ℕ)). None ∷ ys) (maps_one f g h xs each)
maps_one f g h (Some n ∷ xs) each =
    let first : f (g n) ≡ h n = each n (is_in-head n (named xs)) in
    let rest : map (option_map f) (map (option_map g) xs) ≡ map (option_map h) xs = maps_one f g h xs (λ m there. each m (is_in-tail m n (named xs) there)) in
    (λ i. Some (first i) ∷ rest i)

rows_one : (f g h : ℕ → ℕ) (rss : List (List (Option ℕ))) → ((n : ℕ) → is_in n (roots rss) ≡ true → f (g n) ≡ h n) → map (map (option_map f)) (map (map (option_map g)) rss) ≡ map (map (option_map h)) rss
rows_one f g h [] each = refl
rows_one f g h (rs ∷ rss) each =
    let first : map (option_map f) (map (option_map g) rs) ≡ map (option_map h) rs = maps_one f g h rs (λ n there. each n (is_in-left n (named rs) (roots rss) there)) in
    let rest : map (map (option_map f)) (map (map (option_map g)) rss) ≡ map (map (option_map h)) rss = rows_one f g h rss (λ n there. each n (is_in-right n (named rs) (roots rss) there)) in
    (λ i. first i ∷ rest i)

same_rows : (rss : List (List (Option ℕ))) → map (map (option_map (λ (n : ℕ). n))) rss ≡ rss
same_rows [] = refl
same_rows (rs ∷ rss) =
    let first : map (option_map (λ n. n)) rs ≡ rs = same_map rs in
    let rest : map (map (option_map (λ n. n))) rss ≡ rss = same_rows rss in
    (λ i. first i ∷ rest i)

-- different numbers stay different
not_in : (f : ℕ → ℕ) (n : ℕ) (ns : List ℕ) → ((m : ℕ) → is_in m ns ≡ true → f m ≡ f n → ⊥) → is_in (f n) (map f ns) ≡ false
not_in f n [] apart = refl
not_in f n (m ∷ ns) apart =
    ap (λ (b : Bool). b || is_in (f n) (map f ns)) (ne_eqb (f m) (f n) (apart m (is_in-head m ns)))
    ∙ not_in f n ns (λ k there. apart k (is_in-tail k m ns there))

distinct_map : (f : ℕ → ℕ) (ns : List ℕ) → IsDistinct ns → ((m n : ℕ) → is_in m ns ≡ true → is_in n ns ≡ true → f m ≡ f n → m ≡ n) → IsDistinct (map f ns)
distinct_map f [] distinct one = distinct
distinct_map f (n ∷ ns) distinct one = (
  not_in f n ns (λ m there e. both_ways (is_in n ns) distinct.0 (subst (λ k. is_in k ns ≡ true) (one m n (is_in-tail m n ns there) (is_in-head n ns) e) there)),
  distinct_map f ns distinct.1 (λ a b p q e. one a b (is_in-tail a n ns p) (is_in-tail b n ns q) e),
)

-- a place that is one of the list's has the number
place_found : (ns : List ℕ) (n : ℕ) → place_in ns n < length ns → get_or ns (place_in ns n) 0 ≡ n
place_found [] n within = absurd (omega (arith, within))
place_found (m ∷ ns) n within = elim (cases_eq m n) [
  | inl e ↦ let z : place_in (m ∷ ns) n ≡ 0 = subst (λ (k : ℕ). place_in (k ∷ ns) n ≡ 0) (sym e) (here n ns) in
      ap (λ (i : ℕ). get_or (m ∷ ns) i 0) z ∙ e
  | inr apart ↦ let s : place_in (m ∷ ns) n ≡ suc (place_in ns n) = later n m ns apart in
      ap (λ (i : ℕ). get_or (m ∷ ns) i 0) s ∙ place_found ns n (omega (arith, within, s))
]

-- ---- an image in another number of slots
registers_fit : (old slots registers : ℕ) (rss : List (List (Option ℕ))) → ((n : ℕ) → is_in n (roots rss) ≡ true → n < slots) → All (AreRegisters old registers) rss → All (AreRegisters slots registers) rss
registers_fit old slots registers [] each all = All-nil (AreRegisters slots registers)
registers_fit old slots registers (rs ∷ rss) each all =
    All-cons (AreRegisters slots registers) rs rss
    (record {
      number = (All-head (AreRegisters old registers) rs rss all).number;
      places = all_named (λ n. n < slots) rs (λ n there. each n (is_in-left n (named rs) (roots rss) there));
    })
    (registers_fit old slots registers rss (λ n there. each n (is_in-right n (named rs) (roots rss) there)) (All-tail (AreRegisters old registers) rs rss all))

pub in_slots_image : (v : ImageContents) (slots : ℕ) → IsImage v → IsSlots slots → length v.objects ≤ slots → IsImage (in_slots v slots)
in_slots_image v slots image some room = record {
  sized = record {
    heap = record { some_slots = some.0; most_slots = some.1; some_fields = image.sized.heap.some_fields; most_fields = image.sized.heap.most_fields; some_registers = image.sized.heap.some_registers; most_registers = image.sized.heap.most_registers };
    some_mutators = image.sized.some_mutators;
    most_mutators = image.sized.most_mutators;
  };
  few = room;
  objects = All-from_get_or (IsNode slots v.fields) v.objects nothing (λ i within.
      let is : IsNode v.slots v.fields (get_or v.objects i nothing) = All-get_or (IsNode v.slots v.fields) v.objects i nothing within image.objects in
      record {
        label = is.label;
        width = is.width;
        places = all_named (λ n. n < slots) (get_or v.objects i nothing).fields (λ n there.
            let below : n < length v.objects = reached_below v image n (child i n (below_reached v image i within) there) in
            omega (arith, below, room));
        leaf = is.leaf;
      });
  mutators = image.mutators;
  registers = registers_fit v.slots slots v.registers v.held (λ n there. let below : n < length v.objects = reached_below v image n (root n there) in omega (arith, below, room)) image.registers;
  numbered = image.numbered;
}

-- where fields lead that have these words
field_targets : (f : ℕ → ℕ) (words : List ℕ) → targets (map (field_of f) words) ≡ map (option_map f) (map target_of words)
field_targets f [] = refl
field_targets f (w ∷ words) = ap (λ (xs : List (Option ℕ)). option_map f (target_of w) ∷ xs) (field_targets f words)

-- an object that has other fields where it is one of the list's
abbrev chosen : Bool → Object → List Field → Object
chosen true x fields = record x { fields = fields }
chosen false x fields = x

chosen_label : (b : Bool) (x : Object) (fields : List Field) → (chosen b x fields).label ≡ x.label
chosen_label true x fields = refl
chosen_label false x fields = refl

chosen_leaf : (b : Bool) (x : Object) (fields : List Field) → (chosen b x fields).leaf ≡ x.leaf
chosen_leaf true x fields = refl
chosen_leaf false x fields = refl

module _ (w : Core) (list : List ℕ) (slots : ℕ) (world : IsWorld w) (numbers : NumbersSlots (sight w) list) (some : IsSlots slots) (room : length list ≤ slots) where
  abbrev v : ImageContents
  v = in_slots (image_of w list) slots

  abbrev log : ℕ
  log = w.config.log_entries

  abbrev policy : Policy
  policy = w.config.policy

  abbrev new : Core
  new = restored v log policy

  few : length list ≤ w.config.slots
  few = few_listed w list world numbers

  many : length v.objects ≡ length list
  many = length-map list (node_of (sight w) list)

  fits : IsImage v
  fits = in_slots_image (image_of w list) slots (is_image w list world numbers few) some (omega (arith, many, room))

  config_is : IsConfig (config_of v log policy)
  config_is = record {
    some_slots = some.0;
    few_slots = some.1;
    some_fields = world.shaped.config.some_fields;
    few_fields = world.shaped.config.few_fields;
    some_registers = world.shaped.config.some_registers;
    few_registers = world.shaped.config.few_registers;
    some_mutators = world.shaped.config.some_mutators;
    few_mutators = world.shaped.config.few_mutators;
    some_log_entries = world.shaped.config.some_log_entries;
    few_log_entries = world.shaped.config.few_log_entries;
    some_epoch = omega arith;
    few_epochs = omega arith;
  }

  by : images.StandsBy v (sight new) (λ s. s)
  by = restored_by v fits log policy config_is

  below : (s : ℕ) → IsTaken (sight new) s → s < length list
  below s taken = omega (arith, by.there s taken, many)

  taken_new : (s : ℕ) → Reaches (sight new) s → IsTaken (sight new) s
  taken_new = reached_is_taken (sight new) (seen.seen_sound (config_of v log policy) (objects_in v) config_is (are_objects v fits log policy) (have_labels v fits))

  listed : (n : ℕ) → Reaches (sight w) n → is_in n list ≡ true
  listed n reached = (lists_reached (roots (sight w).registers) (targets_of (sight w)) list numbers n).0 reached

  reached_old : (s : ℕ) → s < length list → Reaches (sight w) (get_or list s 0)
  reached_old s within = All-get_or (Reaches (sight w)) list s 0 within numbers.reached

  taken_old : (s : ℕ) → s < length list → IsTaken (sight w) (get_or list s 0)
  taken_old s within = reached_is_taken (sight w) world.shaped.sound (get_or list s 0) (reached_old s within)

  node_at : (s : ℕ) → s < length list → get_or v.objects s nothing ≡ node_of (sight w) list (get_or list s 0)
  node_at s within = get_or-map (node_of (sight w) list) list s 0 nothing within

  distinct : IsDistinct list
  distinct = numbering_distinct (roots (sight w).registers) (targets_of (sight w)) list numbers

  one_move : (s t : ℕ) → s < length list → t < length list → get_or list s 0 ≡ get_or list t 0 → s ≡ t
  one_move s t p q e = sym (place_at list s distinct p) ∙ ap (place_in list) e ∙ place_at list t distinct q

  -- the registers name what they named
  registers_moved : map (map (option_map (λ s. get_or list s 0))) (sight new).registers ≡ (sight w).registers
  registers_moved =
      ap (map (map (option_map (λ s. get_or list s 0)))) (sym (by.registers ∙ same_rows (sight new).registers))
      ∙ rows_one (λ s. get_or list s 0) (place_in list) (λ n. n) (sight w).registers (λ n there. (at_place list n (listed n (root n there))).1)
      ∙ same_rows (sight w).registers

  -- and so do fields
  targets_moved : (s : ℕ) → Reaches (sight new) s → map (option_map (λ k. get_or list k 0)) (map target_of (words_of (sight new) s)) ≡ map target_of (words_of (sight w) (get_or list s 0))
  targets_moved s from =
      let within : s < length list = below s (taken_new s from) in
      let old : ℕ = get_or list s 0 in
      let same : map target_of (words_of (sight new) s) ≡ map (option_map (place_in list)) (map target_of (words_of (sight w) old))
      = sym (same_map (map target_of (words_of (sight new) s))) ∙ sym (two_maps (λ n. n) (words_of (sight new) s)) ∙ sym (by.fields s from)
      ∙ ap (λ (node : Node). node.fields) (node_at s within) ∙ two_maps (place_in list) (words_of (sight w) old) in
      ap (map (option_map (λ k. get_or list k 0))) same
      ∙ maps_one (λ k. get_or list k 0) (place_in list) (λ n. n) (map target_of (words_of (sight w) old)) (λ n there. (at_place list n (listed n (child old n (reached_old s within) there))).1)
      ∙ same_map (map target_of (words_of (sight w) old))

  header_moved : (s : ℕ) (leaf : Bool) (label : ℕ) → IsTaken (sight new) s → IsHeaderOf leaf label (get_or w.headers (get_or list s 0) 0) → IsHeaderOf leaf label (get_or new.headers s 0)
  header_moved s leaf label taken was =
      let within : s < length list = below s taken in
      let head : IsTakenHeader (get_or w.headers (get_or list s 0) 0) = header w list world numbers few (get_or list s 0) (is_in-at list s within) in
      let own = subst (λ (node : Node). IsHeaderOf node.leaf node.label (get_or new.headers s 0)) (node_at s within) (by.header s taken) in
      record { leaf = own.leaf ∙ was.leaf; label = omega (arith, own.label, was.label, head.some) }

  moved_for : (u : ImageContents) → StandsFor u (sight w) → StandsFor u (sight new)
  moved_for u (number, st) = (
    λ s. number (get_or list s 0),
    record {
      one_to_one = λ s t p q e. one_move s t (below s p) (below t q) (st.one_to_one (get_or list s 0) (get_or list t 0) (taken_old s (below s p)) (taken_old t (below t q)) e);
      there = λ s p. st.there (get_or list s 0) (taken_old s (below s p));
      header = λ s p. header_moved s (get_or u.objects (number (get_or list s 0)) nothing).leaf (get_or u.objects (number (get_or list s 0)) nothing).label p (st.header (get_or list s 0) (taken_old s (below s p)));
      registers = st.registers ∙ ap (map (map (option_map number))) (sym registers_moved) ∙ rows_one number (λ s. get_or list s 0) (λ s. number (get_or list s 0)) (sight new).registers (λ n there. refl);
      fields = λ s from.
          let within : s < length list = below s (taken_new s from) in
          st.fields (get_or list s 0) (reached_old s within)
          ∙ two_maps number (words_of (sight w) (get_or list s 0))
          ∙ ap (map (option_map number)) (sym (targets_moved s from))
          ∙ maps_one number (λ k. get_or list k 0) (λ k. number (get_or list k 0)) (map target_of (words_of (sight new) s)) (λ n there. refl)
          ∙ sym (two_maps (λ k. number (get_or list k 0)) (words_of (sight new) s));
    },
  )

  -- ---- a heap that never frees, with the words of the new fields
  module _ (h : Heap) (number : ℕ → ℕ) (st : StandsBy h (sight w) number) where
    abbrev numbered : ℕ → ℕ
    numbered s = number (get_or list s 0)

    abbrev slot_of : ℕ → ℕ
    slot_of n = place_in (map number list) n

    abbrev anew : ℕ → Object
    anew n = chosen (nat_lt (slot_of n) (length list)) (object h n) (map (field_of numbered) (words_of (sight new) (slot_of n)))

    abbrev again : Heap
    again = record { objects = map anew (range_with_len 0 (length h.objects)); registers = h.registers }

    as_many : length again.objects ≡ length h.objects
    as_many = length-map (range_with_len 0 (length h.objects)) anew ∙ length-range_with_len 0 (length h.objects)

    object_again : (n : ℕ) → n < length h.objects → object again n ≡ anew n
    object_again n there =
        get_or-map anew (range_with_len 0 (length h.objects)) n 0 no_object (omega (arith, there, length-range_with_len 0 (length h.objects)))
        ∙ ap anew (get_or-range_with_len 0 (length h.objects) n 0 there ∙ (let e : 0 + n ≡ n = omega arith in e))

    object_past : (n : ℕ) → length h.objects ≤ n → object again n ≡ object h n
    object_past n past = get_or_past again.objects n no_object (omega (arith, past, as_many)) ∙ sym (get_or_past h.objects n no_object past)

    slot_numbered : (s : ℕ) → s < length list → slot_of (numbered s) ≡ s
    slot_numbered s within =
        ap (place_in (map number list)) (sym (get_or-map number list s 0 0 within))
        ∙ place_at (map number list) s
        (distinct_map number list distinct (λ m n p q e. st.one_to_one m n (reached_is_taken (sight w) world.shaped.sound m (old m p)) (reached_is_taken (sight w) world.shaped.sound n (old n q)) e))
        (omega (arith, within, length-map list number))
      where
        old : (n : ℕ) → is_in n list ≡ true → Reaches (sight w) n
        old n there = (lists_reached (roots (sight w).registers) (targets_of (sight w)) list numbers n).1 there

    targets_anew : (n : ℕ) → targets (anew n).fields ≡ targets (object h n).fields
    targets_anew n = elim (cases_lt (slot_of n) (length list)) [
      | inl within ↦
          let s : ℕ = slot_of n in
          let old : ℕ = get_or list s 0 in
          let here_now : number old ≡ n = sym (get_or-map number list s 0 0 within) ∙ place_found (map number list) n (omega (arith, within, length-map list number)) in
          ap (λ (b : Bool). targets (chosen b (object h n) (map (field_of numbered) (words_of (sight new) s))).fields) (lt-ltb s (length list) within)
          ∙ field_targets numbered (words_of (sight new) s)
          ∙ sym (maps_one number (λ k. get_or list k 0) numbered (map target_of (words_of (sight new) s)) (λ k there. refl))
          ∙ ap (map (option_map number)) (targets_moved s (new_reached s within))
          ∙ sym (field_targets number (words_of (sight w) old))
          ∙ ap targets (sym (st.fields old (reached_old s within)))
          ∙ ap (λ (k : ℕ). targets (object h k).fields) here_now
      | inr past ↦ ap (λ (b : Bool). targets (chosen b (object h n) (map (field_of numbered) (words_of (sight new) (slot_of n)))).fields) (le-ltb (slot_of n) (length list) past)
    ]
      where
        new_reached : (s : ℕ) → s < length list → Reaches (sight new) s
        new_reached s within = seen.slot_reached (config_of v log policy) (objects_in v) config_is (are_objects v fits log policy) (have_labels v fits) s (omega (arith, within, many, nodes_many v fits))

    agree : AgreeButWords h again
    agree = record {
      registers = refl;
      many = as_many;
      label = λ n. elim (cases_lt n (length h.objects)) [
        | inl there ↦ ap (λ (x : Object). x.label) (object_again n there) ∙ chosen_label (nat_lt (slot_of n) (length list)) (object h n) (map (field_of numbered) (words_of (sight new) (slot_of n)))
        | inr past ↦ ap (λ (x : Object). x.label) (object_past n past)
      ];
      leaf = λ n. elim (cases_lt n (length h.objects)) [
        | inl there ↦ ap (λ (x : Object). x.leaf) (object_again n there) ∙ chosen_leaf (nat_lt (slot_of n) (length list)) (object h n) (map (field_of numbered) (words_of (sight new) (slot_of n)))
        | inr past ↦ ap (λ (x : Object). x.leaf) (object_past n past)
      ];
      fields = λ n. elim (cases_lt n (length h.objects)) [
        | inl there ↦ ap (λ (x : Object). targets x.fields) (object_again n there) ∙ targets_anew n
        | inr past ↦ ap (λ (x : Object). targets x.fields) (object_past n past)
      ];
    }

    stands_again : StandsBy again (sight new) numbered
    stands_again = record {
      one_to_one = λ s t p q e. one_move s t (below s p) (below t q) (st.one_to_one (get_or list s 0) (get_or list t 0) (taken_old s (below s p)) (taken_old t (below t q)) e);
      there = λ s p. let lt : numbered s < length h.objects = st.there (get_or list s 0) (taken_old s (below s p)) in omega (arith, lt, as_many);
      header = λ s p.
          let was = st.header (get_or list s 0) (taken_old s (below s p)) in
          header_moved s (object again (numbered s)).leaf (object again (numbered s)).label p (record {
            leaf = was.leaf ∙ sym (agree.leaf (numbered s));
            label = omega (arith, was.label, agree.label (numbered s));
          });
      registers = st.registers ∙ ap (map (map (option_map number))) (sym registers_moved) ∙ rows_one number (λ s. get_or list s 0) numbered (sight new).registers (λ n there. refl);
      fields = λ s from.
          let within : s < length list = below s (taken_new s from) in
          let lt : numbered s < length h.objects = st.there (get_or list s 0) (taken_old s within) in
          ap (λ (x : Object). x.fields) (object_again (numbered s) lt)
          ∙ ap (λ (b : Bool). (chosen b (object h (numbered s)) (map (field_of numbered) (words_of (sight new) (slot_of (numbered s))))).fields) (lt-ltb (slot_of (numbered s)) (length list) (omega (arith, within, slot_numbered s within)))
          ∙ ap (λ (k : ℕ). map (field_of numbered) (words_of (sight new) k)) (slot_numbered s within);
    }

  moved : (h : Heap) → Represents h (sight w) → (same : Heap) × AgreeButWords h same × Represents same (sight new)
  moved h (number, st) = (again h number st, agree h number st, (λ s. number (get_or list s 0), stands_again h number st))

-- ---- what the heap that is restored from the image is beside the world
pub is_renewed : (w new : Core) (slots log : ℕ) (policy : Policy) (u v : ImageContents) → IsWorld w → IsImageOf w u → IsSlots slots → length u.objects ≤ slots → v ≡ in_slots u slots → log ≡ w.config.log_entries → policy ≡ w.config.policy → new ≡ restored v log policy → IsRenewed w slots new
is_renewed w new slots log policy u v world (list, numbers, is) some fit moved_slots logs kind opened =
    let room : length list ≤ slots = omega (arith, fit, ap (λ (x : ImageContents). length x.objects) is, length-map list (node_of (sight w) list)) in
    let all : v ≡ in_slots (image_of w list) slots = moved_slots ∙ ap (λ (x : ImageContents). in_slots x slots) is in
    let same : new ≡ restored (in_slots (image_of w list) slots) w.config.log_entries w.config.policy = opened ∙ (λ i. restored (all i) (logs i) (kind i)) in
    record {
      list = list;
      numbers = numbers;
      in_range = some;
      room = room;
      opened = same;
      config = ap (λ (x : Core). x.config) same;
      made = ap (λ (x : Core). x.made) same ∙ length-map (map (node_of (sight w) list) list) mark_of ∙ length-map list (node_of (sight w) list);
      image = subst (λ (x : Core). (again : List ℕ) → NumbersSlots (sight x) again → image_of x again ≡ in_slots (image_of w list) slots) (sym same)
          (image_again (in_slots (image_of w list) slots) w.config.log_entries w.config.policy (fits w list slots world numbers some room) (config_is w list slots world numbers some room));
      stands = subst (λ (x : Core). (heap : Heap) → Represents heap (sight w) → (after : Heap) × AgreeButWords heap after × Represents after (sight x)) (sym same) (moved w list slots world numbers some room);
      stands_for = subst (λ (x : Core). (y : ImageContents) → StandsFor y (sight w) → StandsFor y (sight x)) (sym same) (moved_for w list slots world numbers some room);
    }
