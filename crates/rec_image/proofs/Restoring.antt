-- The objects of an image are those of a heap with its numbers, and the image stands for the heap that is opened from them.
use Rattle.std.proofs.Common.{◌≡◌, ℕ, zero, suc, ◌+◌, ◌-◌, ◌*◌, ◌^◌, ◌<◌, ◌≤◌, Bool, true, List, [], ◌∷◌, ◌++◌, Option, None, Some, All, length, map, get_or, take, drop, refl, sym, ap, subst, ◌∙◌, arith, inl, inr, false, length-append, length-drop}
use Rattle.std.specs.List.{flat_map, range_with_len}
use Rattle.std.specs.Option.{IfSome}
use Rattle.std.proofs.Math.Nat.{suc-mul}
use Rattle.std.proofs.Math.Seq.{drop-append-add}
use Rattle.std.proofs.lemmas.Bool.{cases_lt, false≢true}
use Rattle.std.proofs.lemmas.List.{length-map, take-append-drop, take-append-le, take_all, get_or-map, get_or_past}
use Rattle.std.proofs.lemmas.List.Elements.{All-append, All-cons, All-from_get_or, All-get_or, All-head, All-map, All-nil, All-tail}
use Rattle.rec_collector.specs.declared.policy.Policy.{Policy}
use Rattle.rec_word.specs.Header.{IsHeaderOf}
use Rattle.rec_word.specs.Word.{target_of}
use Rattle.rec_model.specs.Heap.{roots}
use Rattle.rec_model.specs.Reach.{IsReached, is_in, named}
use Rattle.rec_model.specs.Reach.IsReached.{child, root}
use Rattle.rec_model.specs.Sight.{IsTaken, words_of}
use Rattle.rec_model.proofs.Members.{is_in-cons, is_in-head, is_in-tail}
use Rattle.rec_model.proofs.Numbered.{lists_reached}
use Rattle.rec_model.proofs.Standing.{reached_is_taken}
use Rattle.rec_core.specs.Config.{IsConfig}
use Rattle.rec_core.specs.Core.{Core, sight, opened_from}
use Rattle.rec_core.specs.Objects.{AreObjects, HaveLabels, IsOneOf, Objects, fields_at, node_at, rows_of}
use Rattle.rec_core.specs.declared.config.Config.{Config}
use Rattle.rec_core.proofs.OpenedFromSeen as seen
use Rattle.rec_image.specs.Drafts as drafts
use Rattle.rec_image.specs.Image.{AreRegisters, ImageContents, IsImage, IsNode, Node, children, nothing}
use Rattle.rec_image.specs.Restored.{config_of, fields_in, mark_of, objects_in, restored}
use Rattle.rec_image.specs.Standing.{StandsBy, StandsFor}
use Rattle.rec_image.proofs.Worlds.{same_map, two_maps}
use Rattle.rec_model.proofs.Named.{named-append}

-- ---- what stands one behind the other

-- as many fields as objects have
pub fields_long : (slots fields : ℕ) (objects : List Node) → All (IsNode slots fields) objects → length (flat_map fields_in objects) ≡ length objects * fields
fields_long slots fields [] all = omega arith
fields_long slots fields (node ∷ objects) all =
    let own : length node.fields ≡ fields = (All-head (IsNode slots fields) node objects all).width in
    omega (arith, own, length-append node.fields (flat_map fields_in objects), fields_long slots fields objects (All-tail (IsNode slots fields) node objects all), suc-mul (length objects) fields)

-- and as many registers as mutators have
pub registers_long : (slots registers : ℕ) (held : List (List (Option ℕ))) → All (AreRegisters slots registers) held → length (flat_map (λ own. own) held) ≡ length held * registers
registers_long slots registers [] all = omega arith
registers_long slots registers (own ∷ held) all =
    let long : length own ≡ registers = (All-head (AreRegisters slots registers) own held all).number in
    omega (arith, long, length-append own (flat_map (λ x. x) held), registers_long slots registers held (All-tail (AreRegisters slots registers) own held all), suc-mul (length held) registers)

-- the fields of an object
own_fields : (slots fields : ℕ) (objects : List Node) → All (IsNode slots fields) objects → (n : ℕ) → n < length objects → fields_at fields (flat_map fields_in objects) n ≡ (get_or objects n nothing).fields
own_fields slots fields [] all n there = absurd (omega (arith, there))
own_fields slots fields (node ∷ objects) all zero there =
    let own : length node.fields ≡ fields = (All-head (IsNode slots fields) node objects all).width in
    let from : 0 * fields ≡ 0 = omega arith in
    ap (λ n. take (0 * fields + fields - 0 * fields) (drop n (node.fields ++ flat_map fields_in objects))) from
    ∙ take-append-le (0 * fields + fields - 0 * fields) node.fields (flat_map fields_in objects) (omega (arith, own)) ∙ take_all (0 * fields + fields - 0 * fields) node.fields (omega (arith, own))
own_fields slots fields (node ∷ objects) all (suc n) there =
    let own : length node.fields ≡ fields = (All-head (IsNode slots fields) node objects all).width in
    let rest : List (Option ℕ) = flat_map fields_in objects in
    let at : suc n * fields ≡ length node.fields + n * fields = omega (arith, own, suc-mul n fields) in
    let wide : suc n * fields + fields - suc n * fields ≡ n * fields + fields - n * fields = omega arith in
    (λ i. take (wide i) (drop (at i) (node.fields ++ rest)))
    ∙ ap (take (n * fields + fields - n * fields)) (drop-append-add node.fields rest (n * fields))
    ∙ own_fields slots fields objects (All-tail (IsNode slots fields) node objects all) n (omega arith)

-- the registers of all mutators, cut again
pub rows_again : (slots registers : ℕ) (held : List (List (Option ℕ))) → All (AreRegisters slots registers) held → rows_of registers (length held) (flat_map (λ own. own) held) ≡ held
rows_again slots registers [] all = refl
rows_again slots registers (own ∷ held) all =
    let long : length own ≡ registers = (All-head (AreRegisters slots registers) own held all).number in
    let rest : List (Option ℕ) = flat_map (λ x. x) held in
    let first : take registers (own ++ rest) ≡ own = take-append-le registers own rest (omega (arith, long)) ∙ take_all registers own (omega (arith, long)) in
    let at : registers ≡ length own + 0 = omega (arith, long) in
    let behind : drop registers (own ++ rest) ≡ rest = ap (λ n. drop n (own ++ rest)) at ∙ drop-append-add own rest 0 in
    (λ i. first i ∷ rows_of registers (length held) (behind i))
    ∙ ap (λ (rs : List (List (Option ℕ))). own ∷ rs) (rows_again slots registers held (All-tail (AreRegisters slots registers) own held all))

roots_flat : (held : List (List (Option ℕ))) → roots held ≡ named (flat_map (λ own. own) held)
roots_flat [] = refl
roots_flat (own ∷ held) = ap (λ (ns : List ℕ). named own ++ ns) (roots_flat held) ∙ sym (named-append own (flat_map (λ x. x) held))

-- all of a list have what each name of it has
pub all_named : (P : ℕ → Type 0) (xs : List (Option ℕ)) → ((n : ℕ) → is_in n (named xs) ≡ true → P n) → All (λ x. IfSome x P) xs
all_named P [] each = All-nil (λ x. IfSome x P)
all_named P (None ∷ xs) each = All-cons (λ x. IfSome x P) None xs tt (all_named P xs each)
all_named P (Some n ∷ xs) each = All-cons (λ x. IfSome x P) (Some n) xs (each n (is_in-head n (named xs))) (all_named P xs (λ m there. each m (is_in-tail m n (named xs) there)))

-- ---- the objects of an image
module _ (v : ImageContents) (image : IsImage v) where
  -- numbers of a listing are below their number
  pub in_range : (n m from : ℕ) → is_in n (range_with_len from m) ≡ true → n < from + m
  in_range n zero from there = absurd (false≢true there)
  in_range n (suc m) from there = elim (is_in-cons n from (range_with_len (from + 1) m) there) [
    | inl is ↦ omega (arith, is)
    | inr rest ↦ omega (arith, in_range n m (from + 1) rest)
  ]

  range_in : (n m from : ℕ) → from ≤ n → n < from + m → is_in n (range_with_len from m) ≡ true
  range_in n zero from low high = absurd (omega (arith, low, high))
  range_in n (suc m) from low high = elim (cases_lt from n) [
    | inl more ↦ is_in-tail n from (range_with_len (from + 1) m) (range_in n m (from + 1) (omega arith) (omega (arith, high)))
    | inr same ↦ let at : from ≡ n = omega (arith, low, same) in subst (λ k. is_in n (k ∷ range_with_len (from + 1) m) ≡ true) (sym at) (is_in-head n (range_with_len (from + 1) m))
  ]

  pub reached_below : (n : ℕ) → IsReached (roots v.held) (children v.objects) n → n < length v.objects
  reached_below n reached = omega (arith, in_range n (length v.objects) 0 ((lists_reached (roots v.held) (children v.objects) (range_with_len 0 (length v.objects)) image.numbered n).0 reached))

  pub below_reached : (n : ℕ) → n < length v.objects → IsReached (roots v.held) (children v.objects) n
  below_reached n below = (lists_reached (roots v.held) (children v.objects) (range_with_len 0 (length v.objects)) image.numbered n).1 (range_in n (length v.objects) 0 (omega arith) (omega (arith, below)))

  abbrev o : Objects
  o = objects_in v

  pub nodes_many : length o.nodes ≡ length v.objects
  nodes_many = length-map v.objects mark_of

  pub fields_own : (n : ℕ) → n < length v.objects → fields_at v.fields o.fields n ≡ (get_or v.objects n nothing).fields
  fields_own = own_fields v.slots v.fields v.objects image.objects

  pub node_own : (n : ℕ) → n < length v.objects → node_at o n ≡ mark_of (get_or v.objects n nothing)
  node_own n below = get_or-map mark_of v.objects n nothing (0, false) below

  -- each object's fields lead to objects
  pub own_below : (n : ℕ) → n < length v.objects → All (IsOneOf (length v.objects)) (get_or v.objects n nothing).fields
  own_below n below = all_named (λ m. m < length v.objects) (get_or v.objects n nothing).fields (λ m there. reached_below m (child n m (below_reached n below) there))

  fields_below : All (IsOneOf (length v.objects)) o.fields
  fields_below = go v.objects (All-from_get_or (λ (node : Node). All (IsOneOf (length v.objects)) node.fields) v.objects nothing own_below)
    where
      go : (nodes : List Node) → All (λ (node : Node). All (IsOneOf (length v.objects)) node.fields) nodes → All (IsOneOf (length v.objects)) (flat_map fields_in nodes)
      go [] all = All-nil (IsOneOf (length v.objects))
      go (node ∷ nodes) all =
          All-append (IsOneOf (length v.objects)) node.fields (flat_map fields_in nodes) (All-head (λ (x : Node). All (IsOneOf (length v.objects)) x.fields) node nodes all)
          (go nodes (All-tail (λ (x : Node). All (IsOneOf (length v.objects)) x.fields) node nodes all))

  -- and so do registers
  pub held_below : All (IsOneOf (length v.objects)) o.registers
  held_below = all_named (λ m. m < length v.objects) o.registers (λ m there. reached_below m (root m (subst (λ ns. is_in m ns ≡ true) (sym (roots_flat v.held)) there)))

  object_reached : (n : ℕ) → IsReached (roots v.held) (children v.objects) n → IsReached (named o.registers) (λ m. named (fields_at v.fields o.fields m)) n
  object_reached n (root k there) = root n (subst (λ ns. is_in n ns ≡ true) (roots_flat v.held) there)
  object_reached n (child m k from there) =
      child m n (object_reached m from) (subst (λ (xs : List (Option ℕ)). is_in n (named xs) ≡ true) (sym (fields_own m (reached_below m from))) there)

  pub are_objects : (log_entries : ℕ) (policy : Policy) → AreObjects (config_of v log_entries policy) o
  are_objects log_entries policy = record {
    few = omega (arith, image.few, nodes_many);
    fields = fields_long v.slots v.fields v.objects image.objects ∙ ap (λ n. n * v.fields) (sym nodes_many);
    registers = registers_long v.slots v.registers v.held image.registers ∙ ap (λ n. n * v.registers) image.mutators;
    targets = subst (λ n. All (IsOneOf n) o.fields) (sym nodes_many) fields_below;
    held = subst (λ n. All (IsOneOf n) o.registers) (sym nodes_many) held_below;
    leaves = λ n mark. elim (cases_lt n (length v.objects)) [
      | inl below ↦ fields_own n below ∙ (All-get_or (IsNode v.slots v.fields) v.objects n nothing below image.objects).leaf (sym (ap (λ (x : ℕ × Bool). x.1) (node_own n below)) ∙ mark)
      | inr past ↦ absurd (false≢true (sym (ap (λ (x : ℕ × Bool). x.1) (get_or_past o.nodes n (0, false) (omega (arith, past, nodes_many)))) ∙ mark))
    ];
    reached = λ n below. object_reached n (below_reached n (omega (arith, below, nodes_many)));
  }

  pub have_labels : HaveLabels o.nodes
  have_labels = All-map (λ (x : ℕ × Bool). x.0 < 2 ^ 32) mark_of v.objects (All-from_get_or (λ (node : Node). node.label < 2 ^ 32) v.objects nothing (λ i there. (All-get_or (IsNode v.slots v.fields) v.objects i nothing there image.objects).label))

  -- ---- the image stands for the heap that is opened from them
  pub restored_by : (log_entries : ℕ) (policy : Policy) → IsConfig (config_of v log_entries policy) → StandsBy v (sight (restored v log_entries policy)) (λ s. s)
  restored_by log_entries policy is =
      let config : Config = config_of v log_entries policy in
      let are : AreObjects config o = are_objects log_entries policy in
      let by = seen.seen_stands config o is are have_labels in
      let below : (s : ℕ) → IsTaken (sight (restored v log_entries policy)) s → s < length v.objects = λ s taken. omega (arith, seen.taken_below config o is are have_labels s taken, nodes_many) in
      record {
        one_to_one = λ s t p q same. same;
        there = below;
        header = λ s taken. subst (λ (x : ℕ × Bool). IsHeaderOf x.1 x.0 (get_or (restored v log_entries policy).headers s 0)) (node_own s (below s taken)) (seen.header_taken_is config o is are have_labels s (omega (arith, below s taken, nodes_many)));
        registers = sym (ap (λ n. rows_of v.registers n o.registers) (sym image.mutators) ∙ rows_again v.slots v.registers v.held image.registers) ∙ by.registers;
        fields = λ s from.
            let there : s < length v.objects = below s (reached_is_taken (sight (restored v log_entries policy)) (seen.seen_sound config o is are have_labels) s from) in
            sym (two_maps (λ n. n) (words_of (sight (restored v log_entries policy)) s) ∙ same_map (map target_of (words_of (sight (restored v log_entries policy)) s)) ∙ seen.targets_at config o is are have_labels s (omega (arith, there, nodes_many)) ∙ fields_own s there);
      }

  pub restored_stands : (log_entries : ℕ) (policy : Policy) → IsConfig (config_of v log_entries policy) → StandsFor v (sight (restored v log_entries policy))
  restored_stands log_entries policy is = (λ s. s, restored_by log_entries policy is)

-- ---- the objects of what an `Image` holds
nodes_in : (fields : ℕ) (nodes : List (ℕ × Bool)) (targets : List (Option ℕ)) → map mark_of (drafts.objects_of fields nodes targets) ≡ nodes
nodes_in fields [] targets = refl
nodes_in fields (node ∷ nodes) targets = ap (λ (ns : List (ℕ × Bool)). node ∷ ns) (nodes_in fields nodes (drop fields targets))

targets_in : (fields : ℕ) (nodes : List (ℕ × Bool)) (targets : List (Option ℕ)) → length targets ≡ length nodes * fields → flat_map fields_in (drafts.objects_of fields nodes targets) ≡ targets
targets_in fields [] [] size = refl
targets_in fields [] (x ∷ targets) size = absurd (omega (arith, size))
targets_in fields (node ∷ nodes) targets size =
    ap (λ ts. take fields targets ++ ts) (targets_in fields nodes (drop fields targets) (omega (arith, size, suc-mul (length nodes) fields, length-drop fields targets))) ∙ take-append-drop fields targets

held_in : (registers rows : ℕ) (held : List (Option ℕ)) → length held ≡ rows * registers → flat_map (λ own. own) (drafts.rows_of registers rows held) ≡ held
held_in registers zero [] size = refl
held_in registers zero (x ∷ held) size = absurd (omega (arith, size))
held_in registers (suc rows) held size =
    ap (λ ts. take registers held ++ ts) (held_in registers rows (drop registers held) (omega (arith, size, suc-mul rows registers, length-drop registers held))) ∙ take-append-drop registers held

pub inside_objects : (fields registers mutators slots : ℕ) (nodes : List (ℕ × Bool)) (targets held : List (Option ℕ)) → length targets ≡ length nodes * fields → length held ≡ mutators * registers
    → objects_in (record { slots = slots; fields = fields; registers = registers; mutators = mutators; objects = drafts.objects_of fields nodes targets; held = drafts.rows_of registers mutators held }) ≡ record { nodes = nodes; fields = targets; registers = held }
inside_objects fields registers mutators slots nodes targets held many rows =
    let of_nodes = nodes_in fields nodes targets in
    let of_fields = targets_in fields nodes targets many in
    let of_held = held_in registers mutators held rows in
    (λ i. record { nodes = of_nodes i; fields = of_fields i; registers = of_held i })

-- what is opened from them is what the image makes
pub opened_as : (v now : ImageContents) (log_entries : ℕ) (policy : Policy) (o : Objects) (w : Core) → o ≡ objects_in v → v ≡ now → w ≡ opened_from (config_of v log_entries policy) o → w ≡ restored now log_entries policy
opened_as v now log_entries policy o w same view is = is ∙ ap (opened_from (config_of v log_entries policy)) same ∙ ap (λ x. restored x log_entries policy) view
