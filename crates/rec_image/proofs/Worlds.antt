-- A world has an image, which stands for it where it is settled.
use Rattle.std.proofs.Common.{◌≡◌, ℕ, zero, suc, ◌+◌, ◌-◌, ◌*◌, ◌<◌, ◌≤◌, true, List, [], ◌∷◌, ◌++◌, Option, None, Some, All, length, map, replicate, get_or, drop, refl, sym, ap, subst, ◌∙◌, arith, append_assoc, length-drop}
use Rattle.std.specs.Prelude.{option_map}
use Rattle.std.specs.List.{flat_map, range_with_len}
use Rattle.std.proofs.lemmas.List.{get_or-map, length-map, length-take-le}
use Rattle.std.proofs.lemmas.List.Elements.{All-cons, All-from_get_or, All-get_or, All-map, All-nil}
use Rattle.rec_word.specs.Header.{IsHeaderOf, IsTakenHeader}
use Rattle.rec_word.specs.Word.{target_of}
use Rattle.rec_model.specs.Heap.{registers_of, roots}
use Rattle.rec_model.specs.Reach.{is_in, named}
use Rattle.rec_model.specs.Reach.IsReached.{child, root}
use Rattle.rec_model.specs.Sight.{NumbersSlots, Reaches, targets_of, words_of}
use Rattle.rec_model.proofs.Members.{all_of, distinct_below, is_in-head, is_in-tail}
use Rattle.rec_model.proofs.Names.{roots_at}
use Rattle.rec_model.proofs.Numbered.{lists_reached, numbering_distinct}
use Rattle.rec_model.proofs.Standing.{reached_is_taken}
use Rattle.rec_core.specs.Core.{nobody}
use Rattle.rec_core.specs.Settled.{IsSettled}
use Rattle.rec_world.specs.World.{Core, IsWorld, sight}
use Rattle.rec_world.proofs.Filled.{fields_end, reached_below}
use Rattle.rec_world.proofs.Names.{names_sound}
use Rattle.rec_image.specs.Image.{AreRegisters, ImageContents, IsImage, IsNode, IsOneOf, Node, children, end_line, header_line, heap_line, object_line, registers_line, text}
use Rattle.rec_image.specs.Standing.{IsOfWorld, StandsFor, held_of, image_of, node_of, place_in}
use Rattle.rec_image.proofs.Carrying.{at_place, numbered, object_at, place_one}

listed : (w : Core) (slots : List ℕ) → NumbersSlots (sight w) slots → (slot : ℕ) → Reaches (sight w) slot → is_in slot slots ≡ true
listed w slots numbers slot reached = (lists_reached (roots (sight w).registers) (targets_of (sight w)) slots numbers slot).0 reached

-- what leads to listed slots has places below their number
places_below : (slots : List ℕ) (most : ℕ) (xs : List (Option ℕ)) → length slots ≤ most → ((n : ℕ) → is_in n (named xs) ≡ true → is_in n slots ≡ true) → All (IsOneOf most) (map (option_map (place_in slots)) xs)
places_below slots most [] few each = All-nil (IsOneOf most)
places_below slots most (None ∷ xs) few each = All-cons (IsOneOf most) None (map (option_map (place_in slots)) xs) tt (places_below slots most xs few each)
places_below slots most (Some n ∷ xs) few each =
    All-cons (IsOneOf most) (Some (place_in slots n)) (map (option_map (place_in slots)) xs)
    (let lt : place_in slots n < length slots = (at_place slots n (each n (is_in-head n (named xs)))).0 in omega arith)
    (places_below slots most xs few (λ m h. each m (is_in-tail m n (named xs) h)))

-- targets under a numbering
pub two_maps : (f : ℕ → ℕ) (words : List ℕ) → map (λ w. option_map f (target_of w)) words ≡ map (option_map f) (map target_of words)
two_maps f [] = refl
two_maps f (w ∷ words) = ap (λ (xs : List (Option ℕ)). option_map f (target_of w) ∷ xs) (two_maps f words)

-- and under no new numbering it stays
pub same_map : (xs : List (Option ℕ)) → map (option_map (λ (n : ℕ). n)) xs ≡ xs
same_map [] = refl
same_map (None ∷ xs) = ap (λ (ys : List (Option ℕ)). None ∷ ys) (same_map xs)
same_map (Some n ∷ xs) = ap (λ (ys : List (Option ℕ)). Some n ∷ ys) (same_map xs)

no_targets : (f : ℕ → ℕ) (n : ℕ) → map (λ w. option_map f (target_of w)) (replicate n 0) ≡ replicate n None
no_targets f zero = refl
no_targets f (suc n) = ap (λ (xs : List (Option ℕ)). None ∷ xs) (no_targets f n)

module _ (w : Core) (slots : List ℕ) (world : IsWorld w) (numbers : NumbersSlots (sight w) slots) (few : length slots ≤ w.config.slots) where
  pub header : (slot : ℕ) → is_in slot slots ≡ true → IsTakenHeader (get_or w.headers slot 0)
  header slot there =
      let reached : Reaches (sight w) slot = (lists_reached (roots (sight w).registers) (targets_of (sight w)) slots numbers slot).1 there in
      let below : slot < length w.headers = reached_below (sight w) (length w.headers) (names_sound (sight w) world.shaped.sound) slot reached in
      All-get_or (λ h. 0 < h → IsTakenHeader h) w.headers slot 0 below world.shaped.labels (reached_is_taken (sight w) world.shaped.sound slot reached)

  width : (slot : ℕ) → is_in slot slots ≡ true → length (words_of (sight w) slot) ≡ w.config.fields
  width slot there =
      let reached : Reaches (sight w) slot = (lists_reached (roots (sight w).registers) (targets_of (sight w)) slots numbers slot).1 there in
      let below : slot < length w.headers = reached_below (sight w) (length w.headers) (names_sound (sight w) world.shaped.sound) slot reached in
      let end : slot * w.config.fields + w.config.fields ≤ length w.headers * w.config.fields = fields_end slot (length w.headers) w.config.fields below in
      let many : (slot * w.config.fields + w.config.fields) - slot * w.config.fields ≡ w.config.fields = omega arith in
      length-take-le ((slot * w.config.fields + w.config.fields) - slot * w.config.fields) (drop (slot * w.config.fields) w.words) (omega (arith, length-drop (slot * w.config.fields) w.words, world.shaped.sound.places)) ∙ many

  node_is : (slot : ℕ) → is_in slot slots ≡ true → IsNode w.config.slots w.config.fields (node_of (sight w) slots slot)
  node_is slot there =
      let reached : Reaches (sight w) slot = (lists_reached (roots (sight w).registers) (targets_of (sight w)) slots numbers slot).1 there in
      let head : IsTakenHeader (get_or w.headers slot 0) = header slot there in
      record {
        label = omega (arith, head.some, head.few);
        width = length-map (words_of (sight w) slot) (λ word. option_map (place_in slots) (target_of word)) ∙ width slot there;
        places = subst (All (IsOneOf w.config.slots)) (sym (two_maps (place_in slots) (words_of (sight w) slot)))
            (places_below slots w.config.slots (map target_of (words_of (sight w) slot)) few (λ n named_there. listed w slots numbers n (child slot n reached named_there)));
        leaf = λ is. ap (map (λ word. option_map (place_in slots) (target_of word))) (world.shaped.sound.leaves slot is) ∙ no_targets (place_in slots) w.config.fields;
      }

  held_are : All (AreRegisters w.config.slots w.config.registers) (held_of (sight w) slots)
  held_are = All-map (AreRegisters w.config.slots w.config.registers) (map (option_map (place_in slots))) (sight w).registers
      (All-from_get_or (λ own. AreRegisters w.config.slots w.config.registers (map (option_map (place_in slots)) own)) (sight w).registers [] (λ i lt.
      let size : length (sight w).registers ≡ w.config.mutators = length-map w.mutators (λ p. p.registers) ∙ world.shaped.mutators in
      record {
        number = length-map (get_or (sight w).registers i []) (option_map (place_in slots)) ∙ registers_length i (omega arith);
        places = places_below slots w.config.slots (get_or (sight w).registers i []) few (λ n there. listed w slots numbers n (root n (roots_at (sight w).registers i n there)));
      }))
    where
      own_registers : (i : ℕ) → i < w.config.mutators → length (get_or (sight w).registers i []) ≡ length (get_or w.mutators i nobody).registers
      own_registers i lt = ap (length {A = Option ℕ}) (get_or-map (λ p. p.registers) w.mutators i nobody [] (omega (arith, world.shaped.mutators)))

      registers_length : (i : ℕ) → i < w.config.mutators → length (get_or (sight w).registers i []) ≡ w.config.registers
      registers_length i lt =
          let same : (i + 1) - 1 ≡ i = omega arith in
          own_registers i lt ∙ ap (λ (k : ℕ). length (get_or w.mutators k nobody).registers) (sym same) ∙ world.shaped.registers (i + 1) (omega arith, omega arith)

  pub is_image : IsImage (image_of w slots)
  is_image = record {
    sized = record {
      heap = record { some_slots = world.shaped.config.some_slots; most_slots = world.shaped.config.few_slots; some_fields = world.shaped.config.some_fields; most_fields = world.shaped.config.few_fields; some_registers = world.shaped.config.some_registers; most_registers = world.shaped.config.few_registers };
      some_mutators = world.shaped.config.some_mutators;
      most_mutators = world.shaped.config.few_mutators;
    };
    few = omega (arith, length-map slots (node_of (sight w) slots), few);
    objects = All-map (IsNode w.config.slots w.config.fields) (node_of (sight w) slots) slots (all_of (λ slot. IsNode w.config.slots w.config.fields (node_of (sight w) slots slot)) slots node_is);
    mutators = length-map (sight w).registers (map (option_map (place_in slots))) ∙ length-map w.mutators (λ p. p.registers) ∙ world.shaped.mutators;
    registers = held_are;
    numbered = subst (λ (n : ℕ). Rattle.rec_model.specs.Numbering.IsNumbering (roots (held_of (sight w) slots)) (children (map (node_of (sight w) slots) slots)) (range_with_len 0 n)) (sym (length-map slots (node_of (sight w) slots))) (numbered (sight w) slots numbers);
  }

  stands : IsSettled w → StandsFor (image_of w slots) (sight w)
  stands settled = (
    place_in slots,
    record {
      one_to_one = λ s t p q e. place_one slots s t (listed w slots numbers s ((settled.collected s).0 p)) (listed w slots numbers t ((settled.collected t).0 q)) e;
      there = λ s p. let lt : place_in slots s < length slots = (at_place slots s (listed w slots numbers s ((settled.collected s).0 p))).0 in omega (arith, length-map slots (node_of (sight w) slots));
      header = λ s p.
          let there : is_in s slots ≡ true = listed w slots numbers s ((settled.collected s).0 p) in
          let head : IsTakenHeader (get_or w.headers s 0) = header s there in
          subst (λ (node : Node). IsHeaderOf node.leaf node.label (get_or w.headers s 0)) (sym (object_at (sight w) slots numbers s there)) (record { leaf = refl; label = omega (arith, head.some) });
      registers = refl;
      fields = λ s reached. ap (λ (node : Node). node.fields) (object_at (sight w) slots numbers s (listed w slots numbers s reached));
    },
  )

-- no more slots are listed than there are
pub few_listed : (w : Core) (slots : List ℕ) → IsWorld w → NumbersSlots (sight w) slots → length slots ≤ w.config.slots
few_listed w slots world numbers =
    distinct_below slots w.config.slots (numbering_distinct (roots (sight w).registers) (targets_of (sight w)) slots numbers) (λ slot there.
    let reached : Reaches (sight w) slot = (lists_reached (roots (sight w).registers) (targets_of (sight w)) slots numbers slot).1 there in
    let below : slot < length w.headers = reached_below (sight w) (length w.headers) (names_sound (sight w) world.shaped.sound) slot reached in
    omega (arith, below, world.shaped.headers))

-- the lines are its text
pub written_text : (w : Core) (slots : List ℕ) (a b c d : ℕ) (none first second third fourth last line : List ℕ)
    → a ≡ w.config.slots → b ≡ w.config.fields → c ≡ w.config.registers → d ≡ w.config.mutators
    → none ≡ [] → first ≡ none ++ header_line → line ≡ heap_line a b c d → second ≡ first ++ line → third ≡ second ++ flat_map object_line (map (node_of (sight w) slots) slots) → fourth ≡ third ++ flat_map registers_line (held_of (sight w) slots) → last ≡ fourth ++ end_line
    → text (image_of w slots) ≡ last
written_text w slots a b c d none first second third fourth last line sa sb sc sd n f l s t u e =
    sym (e ∙ ap (λ (bs : List ℕ). bs ++ end_line) (u ∙ ap (λ (bs : List ℕ). bs ++ flat_map registers_line (held_of (sight w) slots)) (t ∙ ap (λ (bs : List ℕ). bs ++ flat_map object_line (map (node_of (sight w) slots) slots)) (s ∙ ap (λ (bs : List ℕ). bs ++ line) (f ∙ ap (λ (bs : List ℕ). bs ++ header_line) n)
    ∙ ap (λ (bs : List ℕ). header_line ++ bs) (l ∙ ap (λ (k : ℕ). heap_line k b c d) sa ∙ ap (λ (k : ℕ). heap_line w.config.slots k c d) sb ∙ ap (λ (k : ℕ). heap_line w.config.slots w.config.fields k d) sc ∙ ap (λ (k : ℕ). heap_line w.config.slots w.config.fields w.config.registers k) sd))))
    ∙ groups header_line (heap_line w.config.slots w.config.fields w.config.registers w.config.mutators) (flat_map object_line (map (node_of (sight w) slots) slots)) (flat_map registers_line (held_of (sight w) slots)) end_line)
  where
    groups : (a b c d e : List ℕ) → (((a ++ b) ++ c) ++ d) ++ e ≡ a ++ (b ++ (c ++ (d ++ e)))
    groups a b c d e = simp append_assoc

-- so they are the text of an image that stands for the world
pub written : (w : Core) (slots bytes : List ℕ) → IsWorld w → IsSettled w → NumbersSlots (sight w) slots → length slots ≤ w.config.slots → text (image_of w slots) ≡ bytes
    → (v : ImageContents) × IsImage v × (text v ≡ bytes) × IsOfWorld w v × StandsFor v (sight w)
written w slots bytes world settled numbers few is = (
  image_of w slots,
  is_image w slots world numbers few,
  is,
  record { slots = refl; fields = refl; registers = refl; mutators = refl },
  stands w slots world numbers few settled,
)

-- the number of a mutator's registers
pub registers_count : (w : Core) (own : List (Option ℕ)) → IsWorld w → own ≡ registers_of (sight w).registers 1 → length own ≡ w.config.registers
registers_count w own world is =
    ap (length {A = Option ℕ}) (is ∙ get_or-map (λ p. p.registers) w.mutators 0 nobody [] (omega (arith, world.shaped.mutators, world.shaped.config.some_mutators)))
    ∙ world.shaped.registers 1 (omega arith, world.shaped.config.some_mutators)
