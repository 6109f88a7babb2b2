-- A heap that is opened from an image has that image.
use Rattle.std.proofs.Common.{◌≡◌, ℕ, ◌+◌, ◌<◌, Bool, true, List, [], ◌∷◌, ◌++◌, Option, None, Some, All, length, map, get_or, refl, sym, ap, subst, ◌∙◌, arith}
use Rattle.std.specs.Prelude.{option_map}
use Rattle.std.specs.List.{flat_map, range_with_len}
use Rattle.std.proofs.lemmas.List.{get_or-map, get_or_default, length-map, same_lists}
use Rattle.std.proofs.lemmas.List.Elements.{All-cons, All-head, All-nil, All-tail}
use Rattle.std.proofs.lemmas.List.FromFn.{get_or-range_with_len, length-range_with_len}
use Rattle.rec_collector.specs.declared.policy.Policy.{Policy}
use Rattle.rec_word.specs.Header.{IsHeaderOf, is_leaf, label_of}
use Rattle.rec_word.specs.Word.{target_of}
use Rattle.rec_model.specs.Heap.{roots}
use Rattle.rec_model.specs.Numbering.{firsts}
use Rattle.rec_model.specs.Reach.{is_in, named}
use Rattle.rec_model.specs.Sight.{NumbersSlots, Reaches, targets_of, words_of}
use Rattle.rec_model.proofs.Members.{all_of, is_in-head, is_in-tail}
use Rattle.rec_model.proofs.Numbered.{numbering_distinct, one_numbering}
use Rattle.rec_core.specs.Config.{IsConfig}
use Rattle.rec_core.specs.Core.{Core, sight}
use Rattle.rec_core.specs.Objects.{AreObjects, IsOneOf, rows_of}
use Rattle.rec_core.specs.declared.config.Config.{Config}
use Rattle.rec_core.proofs.OpenedFromSeen as seen
use Rattle.rec_image.specs.Image.{ImageContents, IsImage, Node, children, nothing}
use Rattle.rec_image.specs.Restored.{config_of, objects_in, restored}
use Rattle.rec_image.specs.Standing.{held_of, image_of, node_of, place_in}
use Rattle.rec_image.proofs.Carrying.{place_at}
use Rattle.rec_image.proofs.Worlds.{two_maps}
use Rattle.rec_image.proofs.Restoring.{are_objects, fields_own, have_labels, held_below, in_range, node_own, nodes_many, own_below, rows_again}

-- children that agree are joined alike
same_children : (f g : ℕ → List ℕ) (ns : List ℕ) → ((n : ℕ) → is_in n ns ≡ true → f n ≡ g n) → flat_map f ns ≡ flat_map g ns
same_children f g [] each = refl
same_children f g (n ∷ ns) each =
    let first : f n ≡ g n = each n (is_in-head n ns) in
    let rest : flat_map f ns ≡ flat_map g ns = same_children f g ns (λ m there. each m (is_in-tail m n ns there)) in
    (λ i. first i ++ rest i)

-- numbers below a bound keep their places
kept_places : (ns : List ℕ) (most : ℕ) (xs : List (Option ℕ)) → ((n : ℕ) → n < most → place_in ns n ≡ n) → All (IsOneOf most) xs → map (option_map (place_in ns)) xs ≡ xs
kept_places ns most [] same all = refl
kept_places ns most (None ∷ xs) same all = ap (λ (ys : List (Option ℕ)). None ∷ ys) (kept_places ns most xs same (All-tail (IsOneOf most) None xs all))
kept_places ns most (Some n ∷ xs) same all =
    let first : place_in ns n ≡ n = same n (All-head (IsOneOf most) (Some n) xs all) in
    let rest : map (option_map (place_in ns)) xs ≡ xs = kept_places ns most xs same (All-tail (IsOneOf most) (Some n) xs all) in
    (λ i. Some (first i) ∷ rest i)

kept_rows : (ns : List ℕ) (most : ℕ) (rss : List (List (Option ℕ))) → ((n : ℕ) → n < most → place_in ns n ≡ n) → All (λ rs. All (IsOneOf most) rs) rss → map (map (option_map (place_in ns))) rss ≡ rss
kept_rows ns most [] same all = refl
kept_rows ns most (rs ∷ rss) same all =
    let first : map (option_map (place_in ns)) rs ≡ rs = kept_places ns most rs same (All-head (λ x. All (IsOneOf most) x) rs rss all) in
    let rest : map (map (option_map (place_in ns))) rss ≡ rss = kept_rows ns most rss same (All-tail (λ x. All (IsOneOf most) x) rs rss all) in
    (λ i. first i ∷ rest i)

-- the parts of a list have what the whole has
all_left : (P : Option ℕ → Type 0) (xs ys : List (Option ℕ)) → All P (xs ++ ys) → All P xs
all_left P [] ys all = All-nil P
all_left P (x ∷ xs) ys all = All-cons P x xs (All-head P x (xs ++ ys) all) (all_left P xs ys (All-tail P x (xs ++ ys) all))

all_right : (P : Option ℕ → Type 0) (xs ys : List (Option ℕ)) → All P (xs ++ ys) → All P ys
all_right P [] ys all = all
all_right P (x ∷ xs) ys all = all_right P xs ys (All-tail P x (xs ++ ys) all)

module _ (v : ImageContents) (log_entries : ℕ) (policy : Policy) (image : IsImage v) (is : IsConfig (config_of v log_entries policy)) where
  abbrev config : Config
  config = config_of v log_entries policy

  abbrev w : Core
  w = restored v log_entries policy

  abbrev range : List ℕ
  range = range_with_len 0 (length v.objects)

  are : AreObjects config (objects_in v)
  are = are_objects v image log_entries policy

  registers_are : (sight w).registers ≡ v.held
  registers_are = seen.registers_are config (objects_in v) is are (have_labels v image) ∙ ap (λ n. rows_of v.registers n (objects_in v).registers) (sym image.mutators) ∙ rows_again v.slots v.registers v.held image.registers

  in_many : (n : ℕ) → n < length v.objects → n < length (objects_in v).nodes
  in_many n below = omega (arith, below, nodes_many v image)

  targets_are : (n : ℕ) → n < length v.objects → map target_of (words_of (sight w) n) ≡ (get_or v.objects n nothing).fields
  targets_are n below = seen.targets_at config (objects_in v) is are (have_labels v image) n (in_many n below) ∙ fields_own v image n below

  range_below : (n : ℕ) → is_in n range ≡ true → n < length v.objects
  range_below n there = omega (arith, in_range v image n (length v.objects) 0 there)

  -- its slots are numbered in order
  numbers : NumbersSlots (sight w) range
  numbers =
      let agree : flat_map (children v.objects) range ≡ flat_map (targets_of (sight w)) range
      = same_children (children v.objects) (targets_of (sight w)) range (λ n there. ap named (sym (targets_are n (range_below n there)))) in
      record {
        order = image.numbered.order ∙ (λ i. firsts (roots (sym registers_are i) ++ agree i));
        reached = all_of (Reaches (sight w)) range (λ n there. seen.slot_reached config (objects_in v) is are (have_labels v image) n (in_many n (range_below n there)));
      }

  places_same : (n : ℕ) → n < length v.objects → place_in range n ≡ n
  places_same n below =
      let at : get_or range n 0 ≡ n = get_or-range_with_len 0 (length v.objects) n 0 below ∙ (let e : 0 + n ≡ n = omega arith in e) in
      ap (place_in range) (sym at) ∙ place_at range n (numbering_distinct (roots v.held) (children v.objects) range image.numbered) (omega (arith, below, length-range_with_len 0 (length v.objects)))

  node_same : (n : ℕ) → n < length v.objects → node_of (sight w) range n ≡ get_or v.objects n nothing
  node_same n below =
      let node : Node = get_or v.objects n nothing in
      let own = subst (λ (x : ℕ × Bool). IsHeaderOf x.1 x.0 (get_or w.headers n 0)) (node_own v image n below) (seen.header_taken_is config (objects_in v) is are (have_labels v image) n (in_many n below)) in
      let label : label_of (get_or w.headers n 0) ≡ node.label = omega (arith, own.label) in
      let leaf : is_leaf (get_or w.headers n 0) ≡ node.leaf = own.leaf in
      let fields : map (λ word. option_map (place_in range) (target_of word)) (words_of (sight w) n) ≡ node.fields
      = two_maps (place_in range) (words_of (sight w) n) ∙ ap (map (option_map (place_in range))) (targets_are n below) ∙ kept_places range (length v.objects) node.fields places_same (own_below v image n below) in
      (λ i. record { label = label i; leaf = leaf i; fields = fields i })

  objects_same : map (node_of (sight w) range) range ≡ v.objects
  objects_same = same_lists (map (node_of (sight w) range) range) v.objects (length-map range (node_of (sight w) range) ∙ length-range_with_len 0 (length v.objects)) (λ k d there.
      let below : k < length v.objects = omega (arith, there, length-map range (node_of (sight w) range), length-range_with_len 0 (length v.objects)) in
      let at : get_or range k 0 ≡ k = get_or-range_with_len 0 (length v.objects) k 0 below ∙ (let e : 0 + k ≡ k = omega arith in e) in
      get_or-map (node_of (sight w) range) range k 0 d (omega (arith, below, length-range_with_len 0 (length v.objects))) ∙ ap (node_of (sight w) range) at ∙ node_same k below ∙ get_or_default v.objects k nothing d below)

  held_same : held_of (sight w) range ≡ v.held
  held_same = ap (map (map (option_map (place_in range)))) registers_are ∙ kept_rows range (length v.objects) v.held places_same (rows_below v.held (held_below v image))
    where
      rows_below : (rss : List (List (Option ℕ))) → All (IsOneOf (length v.objects)) (flat_map (λ own. own) rss) → All (λ rs. All (IsOneOf (length v.objects)) rs) rss
      rows_below [] all = All-nil (λ rs. All (IsOneOf (length v.objects)) rs)
      rows_below (rs ∷ rss) all = All-cons (λ x. All (IsOneOf (length v.objects)) x) rs rss (all_left (IsOneOf (length v.objects)) rs (flat_map (λ own. own) rss) all) (rows_below rss (all_right (IsOneOf (length v.objects)) rs (flat_map (λ own. own) rss) all))

  -- so the image of its slots, in the order of a listing, is the one that it was opened from
  pub image_again : (slots : List ℕ) → NumbersSlots (sight w) slots → image_of w slots ≡ v
  image_again slots is_numbering =
      let same : slots ≡ range = one_numbering (roots (sight w).registers) (targets_of (sight w)) slots range is_numbering numbers in
      ap (image_of w) same ∙ (λ i. record { slots = v.slots; fields = v.fields; registers = v.registers; mutators = v.mutators; objects = objects_same i; held = held_same i })
