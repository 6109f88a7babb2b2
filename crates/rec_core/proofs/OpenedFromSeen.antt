-- What is seen of a heap that is opened from objects: it is sound and settled, and the heap that they describe stands for it.
use Rattle.std.proofs.Common.{◌≡◌, inl, inr, ℕ, zero, suc, ◌+◌, ◌-◌, ◌*◌, ◌^◌, ◌<◌, ◌≤◌, Bool, true, false, if◌then◌else◌, Option, None, Some, List, [], ◌∷◌, ◌++◌, All, count_by, sum_by, length, map, take, drop, replicate, slice_index_or, refl, sym, ap, subst, ◌∙◌, arith, length-append, length-drop}
use Rattle.std.specs.Option.{option_map}
use Rattle.std.proofs.Math.Nat.{mul-le-mul, mul-le-mul_right}
use Rattle.std.proofs.Math.Seq.{drop-append-add}
use Rattle.std.proofs.lemmas.Bool.{cases_lt}
use Rattle.std.proofs.lemmas.List.{drop-append-le, drop-replicate, get_or-replicate, get_or_past, length-map, length-replicate, take-append-le, take-replicate}
use Rattle.std.proofs.lemmas.Iterator.Adapters.{option_map_id}
use Rattle.std.proofs.lemmas.List.Elements.{All-cons, All-drop, All-get_or, All-head, All-nil, All-tail, All-take}
use Rattle.std.proofs.lemmas.List.FromFn.{get_or-map-range_with_len, length-map-range_with_len}
use Rattle.rec_word.proofs.Headers.{header_is, leaf_taken}
use Rattle.rec_word.specs.Header.{IsHeaderOf}
use Rattle.rec_model.specs.Heap.{Object, nothing, roots}
use Rattle.rec_model.specs.Reach.{is_in, named}
use Rattle.rec_model.specs.Reach.IsReached.{child, root}
use Rattle.rec_counts.proofs.Opening.{counted_at}
use Rattle.rec_core.proofs.Common.{Config, Core, IsConfig, IsReached, IsSound, IsTaken, IsTarget, Reaches, StandsBy, field_of, header_word, is_leaf, is_slot, reached_is_taken, sight, slot_at, target_of, words_of, absent}
use Rattle.rec_core.proofs.EarlyWords.{drop-early, early-nulls, early_are, early_holding, early_targets, length-early, take-early}
use Rattle.rec_core.proofs.Seated.{named_has, registers_held, roots-rows, rows_sum}
use Rattle.rec_core.specs.Objects.{AreObjects, HaveLabels, IsOneOf, Objects, counts_of, described, early_words, fields_at, holders, node_at, object_at, rows_of}
use Rattle.rec_core.specs.Core.{opened_from}
use Rattle.rec_core.specs.Settled.{IsSettled, fields_holding, registers_holding}

-- under no new numbering
rows_same : (rss : List (List (Option ℕ))) → map (map (option_map (λ s. s))) rss ≡ rss
rows_same [] = refl
rows_same (rs ∷ rss) =
    let first : map (option_map (λ s. s)) rs ≡ rs = row_same rs in
    let rest : map (map (option_map (λ s. s))) rss ≡ rss = rows_same rss in
    (λ i. first i ∷ rest i)
  where
    row_same : (rs : List (Option ℕ)) → map (option_map (λ s. s)) rs ≡ rs
    row_same [] = refl
    row_same (x ∷ xs) =
        let first : option_map (λ s. s) x ≡ x = option_map_id x in
        let rest : map (option_map (λ s. s)) xs ≡ xs = row_same xs in
        (λ i. first i ∷ rest i)

-- an object's header
abbrev pub header_of : ℕ × Bool → ℕ
header_of node = header_word node.1 node.0

pub header_at : (nodes : List (ℕ × Bool)) (rest : List ℕ) (s : ℕ) → s < length nodes → slice_index_or (map header_of nodes ++ rest) s 0 ≡ header_of (slice_index_or nodes s (0, false))
header_at [] rest s there = absurd (omega arith)
header_at (node ∷ nodes) rest zero there = refl
header_at (node ∷ nodes) rest (suc s) there = header_at nodes rest s (omega arith)

-- and that of a free slot
free_at : (nodes : List (ℕ × Bool)) (more s : ℕ) → length nodes ≤ s → slice_index_or (map header_of nodes ++ replicate more 0) s 0 ≡ 0
free_at [] more s past = elim (cases_lt s more) [
  | inl there ↦ get_or-replicate more s 0 0 there
  | inr behind ↦ get_or_past (replicate more 0) s 0 (omega (arith, behind, length-replicate {A = ℕ} more 0))
]
free_at (node ∷ nodes) more zero past = absurd (omega arith)
free_at (node ∷ nodes) more (suc s) past = free_at nodes more s (omega arith)

-- a place below a bound is a target
pub below_targets : (n : ℕ) → n ≤ 65535 → (xs : List (Option ℕ)) → All (IsOneOf n) xs → All IsTarget xs
below_targets n few [] all = All-nil IsTarget
below_targets n few (None ∷ xs) all = All-cons IsTarget None xs tt (below_targets n few xs (All-tail (IsOneOf n) None xs all))
below_targets n few (Some m ∷ xs) all =
    let below : m < n = All-head (IsOneOf n) (Some m) xs all in
    All-cons IsTarget (Some m) xs (omega (arith, below, few)) (below_targets n few xs (All-tail (IsOneOf n) (Some m) xs all))

module _ (config : Config) (o : Objects) (is : IsConfig config) (are : AreObjects config o) (labels : HaveLabels o.nodes) where
  abbrev w : Core
  w = opened_from config o

  abbrev many : ℕ
  many = length o.nodes

  abbrev width : ℕ
  width = config.fields

  abbrev early : List ℕ
  early = early_words 0 o.fields

  abbrev nulls : List ℕ
  nulls = replicate ((config.slots - many) * width) 0

  pub few_objects : many ≤ 65535
  few_objects = omega (arith, are.few, is.few_slots)

  -- how many fields there are
  fields_many : many * width ≤ 2 ^ 42
  fields_many =
      let most : many * width ≤ 65535 * 16 = mul-le-mul few_objects is.few_fields in
      omega (arith, most)

  length_fields : length early ≡ many * width
  length_fields = length-early 0 o.fields ∙ are.fields

  pub few_fields : 0 + length o.fields ≤ 2 ^ 42
  few_fields = omega (arith, are.fields, fields_many)

  pub all_targets : All IsTarget o.fields
  all_targets = below_targets many few_objects o.fields are.targets

  pub headers_many : length w.headers ≡ config.slots
  headers_many = omega (arith, are.few, length-append (map header_of o.nodes) (replicate (config.slots - many) 0), length-map o.nodes header_of, length-replicate {A = ℕ} (config.slots - many) 0)

  pub words_many : length w.words ≡ config.slots * width
  words_many =
      let split : config.slots ≡ many + (config.slots - many) = omega (arith, are.few) in
      let product : config.slots * width ≡ many * width + (config.slots - many) * width = ap (λ n. n * width) split ∙ omega arith in
      omega (arith, product, length_fields, length-append early nulls, length-replicate {A = ℕ} ((config.slots - many) * width) 0)

  -- just the first slots are taken
  pub taken_below : (s : ℕ) → IsTaken (sight w) s → s < many
  taken_below s taken = elim (cases_lt s many) [
    | inl below ↦ below
    | inr past ↦ absurd (omega (arith, taken, free_at o.nodes (config.slots - many) s past))
  ]

  pub below_taken : (s : ℕ) → s < many → IsTaken (sight w) s
  below_taken s below = omega (arith, header_at o.nodes (replicate (config.slots - many) 0) s below)

  pub free_past : (s : ℕ) → many ≤ s → slice_index_or w.headers s 0 ≡ 0
  free_past s past = free_at o.nodes (config.slots - many) s past

  -- an object's label
  pub label_fits : (s : ℕ) → s < many → (node_at o s).0 < 2 ^ 32
  label_fits s below = All-get_or (λ node. node.0 < 2 ^ 32) o.nodes s (0, false) below labels

  -- the words of a taken slot
  words_at : (s : ℕ) → s < many → words_of (sight w) s ≡ early_words (s * width) (fields_at width o.fields s)
  words_at s below =
      let next : (s + 1) * width ≤ many * width = mul-le-mul_right width (omega (arith, below)) in
      let inside : s * width + width ≤ length early = omega (arith, next, length_fields) in
      let k : ℕ = s * width + width - s * width in
      let from : 0 + s * width ≡ s * width = omega arith in
      ap (take k) (drop-append-le (s * width) early nulls (omega (arith, inside)))
      ∙ take-append-le k (drop (s * width) early) nulls (omega (arith, inside, length-drop (s * width) early))
      ∙ ap (take k) (drop-early (s * width) 0 o.fields)
      ∙ take-early k (0 + s * width) (drop (s * width) o.fields)
      ∙ ap (λ p. early_words p (take k (drop (s * width) o.fields))) from

  -- and of a free one
  nulls_past : (s : ℕ) → many ≤ s → s < config.slots → words_of (sight w) s ≡ replicate width 0
  nulls_past s past there =
      let behind : many * width ≤ s * width = mul-le-mul_right width past in
      let next : (s + 1) * width ≤ config.slots * width = mul-le-mul_right width (omega (arith, there)) in
      let split : config.slots ≡ many + (config.slots - many) = omega (arith, are.few) in
      let product : config.slots * width ≡ many * width + (config.slots - many) * width = ap (λ n. n * width) split ∙ omega arith in
      let k : ℕ = s * width + width - s * width in
      let at : s * width ≡ length early + (s * width - many * width) = omega (arith, behind, length_fields) in
      let wide : k ≡ width = omega arith in
      ap (λ n. take k (drop n (early ++ nulls))) at
      ∙ ap (take k) (drop-append-add early nulls (s * width - many * width))
      ∙ ap (take k) (drop-replicate (s * width - many * width) ((config.slots - many) * width) 0)
      ∙ take-replicate k ((config.slots - many) * width - (s * width - many * width)) 0 (omega (arith, behind, next, product, wide))
      ∙ ap (λ n. replicate n 0) wide

  -- what an object's fields lead to
  own_targets : (s : ℕ) → All (IsOneOf many) (fields_at width o.fields s)
  own_targets s = All-take (IsOneOf many) (s * width + width - s * width) (drop (s * width) o.fields) (All-drop (IsOneOf many) (s * width) o.fields are.targets)

  own_few : (s : ℕ) → s < many → s * width + length (fields_at width o.fields s) ≤ 2 ^ 42
  own_few s below =
      let next : (s + 1) * width ≤ many * width = mul-le-mul_right width (omega (arith, below)) in
      omega (arith, next, fields_many, length-take-le (s * width + width - s * width) (drop (s * width) o.fields))
    where
      length-take-le : (n : ℕ) (xs : List (Option ℕ)) → length (take n xs) ≤ n
      length-take-le zero xs = omega arith
      length-take-le (suc n) [] = omega arith
      length-take-le (suc n) (x ∷ xs) = omega (arith, length-take-le n xs)

  pub targets_at : (s : ℕ) → s < many → map target_of (words_of (sight w) s) ≡ fields_at width o.fields s
  targets_at s below = ap (map target_of) (words_at s below) ∙ early_targets (s * width) (fields_at width o.fields s) (own_few s below) (below_targets many few_objects (fields_at width o.fields s) (own_targets s))

  -- what registers name
  pub registers_are : (sight w).registers ≡ rows_of config.registers config.mutators o.registers
  registers_are = registers_held false config 1 (rows_of config.registers config.mutators o.registers)

  roots_are : roots (sight w).registers ≡ named o.registers
  roots_are = ap roots registers_are ∙ roots-rows config.registers config.mutators o.registers are.registers

  -- Names are those of taken slots.
  pub seen_sound : IsSound (sight w)
  seen_sound = record {
    places = words_many ∙ ap (λ n. n * width) (sym headers_many);
    registers = λ n there. below_taken n (named_has (λ m. m < many) o.registers are.held n (subst (λ ns. is_in n ns ≡ true) roots_are there));
    fields = λ s n taken there. below_taken n (named_has (λ m. m < many) (fields_at width o.fields s) (own_targets s) n (subst (λ (xs : List (Option ℕ)). is_in n (named xs) ≡ true) (targets_at s (taken_below s taken)) there));
    free = λ s there open_slot. elim (cases_lt s many) [
      | inl below ↦ absurd (open_slot (below_taken s below))
      | inr past ↦ nulls_past s past (omega (arith, there, headers_many))
    ];
    leaves = λ s leaf.
        let below : s < many = taken_below s (leaf_taken (slice_index_or w.headers s 0) leaf) in
        let mark : (node_at o s).1 ≡ true
        = sym (header_is (node_at o s).1 (node_at o s).0 (label_fits s below)).leaf ∙ ap is_leaf (sym (header_at o.nodes (replicate (config.slots - many) 0) s below)) ∙ leaf in
        words_at s below ∙ ap (early_words (s * width)) (are.leaves s mark) ∙ early-nulls (s * width) width;
  }

  -- an object on a path is a slot on one
  object_reached : (n : ℕ) → IsReached (named o.registers) (λ m. named (fields_at width o.fields m)) n → Reaches (sight w) n
  object_reached n (root m there) = root n (subst (λ ns. is_in n ns ≡ true) (sym roots_are) there)
  object_reached n (child m k from there) =
      let reached : Reaches (sight w) m = object_reached m from in
      let below : m < many = taken_below m (reached_is_taken (sight w) seen_sound m reached) in
      child m n reached (subst (λ (xs : List (Option ℕ)). is_in n (named xs) ≡ true) (sym (targets_at m below)) there)

  pub slot_reached : (s : ℕ) → s < many → Reaches (sight w) s
  slot_reached s below = object_reached s (are.reached s below)

  -- how many fields and registers hold a slot
  held_by_fields : (s : ℕ) → fields_holding w s ≡ count_by (is_slot s) o.fields
  held_by_fields s = early_holding s 0 o.fields ((config.slots - many) * width) few_fields all_targets

  held_by_registers : (s : ℕ) → registers_holding w s ≡ count_by (is_slot s) o.registers
  held_by_registers s = ap (sum_by (count_by (is_slot s))) registers_are ∙ rows_sum (λ x. if is_slot s x then 1 else 0) config.registers config.mutators o.registers are.registers

  count_at : (s : ℕ) → s < many → (slot_at w.collector.counts s).count ≡ holders o s
  count_at s below =
      let counts : length (counts_of o) ≡ many = length-map-range_with_len (holders o) 0 many in
      ap (λ v. v.count) (counted_at config.slots (counts_of o) s absent (omega (arith, below, counts))) ∙ get_or-map-range_with_len (holders o) 0 many s s 0 below (omega arith)

  -- It is settled.
  pub seen_settled : IsSettled w
  seen_settled = record {
    collected = λ s. (λ taken. slot_reached s (taken_below s taken), reached_is_taken (sight w) seen_sound s);
    counted = λ s taken. omega (arith, count_at s (taken_below s taken), held_by_fields s, held_by_registers s);
  }

  -- what an object's header tells
  pub header_taken_is : (s : ℕ) → s < many → IsHeaderOf (node_at o s).1 (node_at o s).0 (slice_index_or w.headers s 0)
  header_taken_is s below =
      subst (λ n. IsHeaderOf (node_at o s).1 (node_at o s).0 n) (sym (header_at o.nodes (replicate (config.slots - many) 0) s below)) (header_is (node_at o s).1 (node_at o s).0 (label_fits s below))

  -- The heap that they describe stands for it.
  heap_object : (s : ℕ) → s < many → slice_index_or (described config o).objects s nothing ≡ object_at width o s
  heap_object s below = get_or-map-range_with_len (object_at width o) 0 many s s nothing below (let e : 0 + s ≡ s = omega arith in e)

  pub seen_stands : StandsBy (described config o) (sight w) (λ s. s)
  seen_stands = record {
    one_to_one = λ s t s_taken t_taken same. same;
    there = λ s taken. omega (arith, taken_below s taken, length-map-range_with_len (object_at width o) 0 many);
    header = λ s taken.
        let below : s < many = taken_below s taken in
        subst (λ (x : Object). IsHeaderOf x.leaf x.label (slice_index_or w.headers s 0)) (sym (heap_object s below)) (header_taken_is s below);
    registers = sym registers_are ∙ sym (rows_same (sight w).registers);
    fields = λ s from.
        let below : s < many = taken_below s (reached_is_taken (sight w) seen_sound s from) in
        ap (λ (x : Object). x.fields) (heap_object s below)
        ∙ early_are (s * width) (fields_at width o.fields s) (own_few s below) (below_targets many few_objects (fields_at width o.fields s) (own_targets s))
        ∙ ap (map (field_of (λ n. n))) (sym (words_at s below));
  }
