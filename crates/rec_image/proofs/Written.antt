-- The lines of a world's image, spelled from their ends and written one after another.
use Rattle.std.proofs.Common.{◌≡◌, ℕ, zero, suc, ◌+◌, ◌-◌, ◌*◌, ◌<◌, ◌≤◌, Bool, true, false, List, [], ◌∷◌, ◌++◌, Option, None, Some, length, map, get_or, take, drop, refl, sym, ap, subst, ◌∙◌, arith, append_assoc, append-nil}
use Rattle.std.specs.Prelude.{codes, option_map, slice_range, unwrap_or}
use Rattle.std.specs.Fmt.{decimal}
use Rattle.std.specs.List.{flat_map}
use Rattle.std.proofs.lemmas.Grind.{flat_map-append}
use Rattle.std.proofs.lemmas.List.{drop_more, get_or-map, length-map, take_more}
use Rattle.std.proofs.lemmas.List.Elements.{All-get_or}
use Rattle.rec_word.specs.Header.{is_leaf, label_of as label_in}
use Rattle.rec_word.specs.Word.{target_of}
use Rattle.rec_model.specs.Heap.{registers_of, roots}
use Rattle.rec_model.specs.Reach.{is_in, named}
use Rattle.rec_model.specs.Reach.IsReached.{child, root}
use Rattle.rec_model.specs.Sight.{Reaches, targets_of, words_of}
use Rattle.rec_model.proofs.Members.{is_in-head, is_in-tail}
use Rattle.rec_model.proofs.Names.{roots_at}
use Rattle.rec_model.proofs.Numbered.{lists_reached}
use Rattle.rec_world.specs.Numbering.{Numbered}
use Rattle.rec_world.specs.World.{Core, IsWorld, label_of, sight}
use Rattle.rec_report.specs.Report.{IsNumbered}
use Rattle.rec_report.specs.Text.{field_number, field_word, line_feed}
use Rattle.rec_report.proofs.Rows.{header_label}
use Rattle.rec_image.specs.Image.{node_head, object_line, registers_line, word}
use Rattle.rec_image.specs.Standing.{held_of, node_of, place_in, spelled_fields, spelled_node, spelled_registers}
use Rattle.rec_image.proofs.Worlds.{two_maps}

pub past_end : (n : ℕ) (xs : List ℕ) → length xs ≤ n → drop n xs ≡ []
past_end zero [] h = refl
past_end (suc n) [] h = refl
past_end zero (x ∷ xs) h = absurd (omega arith)
past_end (suc n) (x ∷ xs) h = past_end n xs (omega arith)

-- one register more before those that are spelled
pub one_before : (f : Option ℕ → List ℕ) (xs : List (Option ℕ)) (left : ℕ) (d : Option ℕ) (before after end : List ℕ) → 0 < left → left ≤ length xs → before ≡ flat_map f (drop left xs) ++ end → after ≡ f (get_or xs (left - 1) d) ++ before → after ≡ flat_map f (drop (left - 1) xs) ++ end
one_before f xs left d before after end some within b a =
    let back : (left - 1) + 1 ≡ left = omega arith in
    let parts : drop (left - 1) xs ≡ get_or xs (left - 1) d ∷ drop left xs = drop_more xs (left - 1) d (omega arith) ∙ ap (λ (n : ℕ). get_or xs (left - 1) d ∷ drop n xs) back in
    a ∙ ap (λ (bs : List ℕ). f (get_or xs (left - 1) d) ++ bs) b
    ∙ sym (append_assoc (f (get_or xs (left - 1) d)) (flat_map f (drop left xs)) end)
    ∙ ap (λ (ys : List (Option ℕ)). flat_map f ys ++ end) (sym parts)

-- ---- what slots are spelled as

-- what listed slots are spelled as
spelled_listed : (list : List ℕ) (xs : List (Option ℕ)) → ((n : ℕ) → is_in n (named xs) ≡ true → is_in n list ≡ true) → flat_map (λ x. field_word (field_number list x)) xs ≡ flat_map word (map (option_map (place_in list)) xs)
spelled_listed list [] each = refl
spelled_listed list (None ∷ xs) each = ap (λ (bs : List ℕ). field_word None ++ bs) (spelled_listed list xs each)
spelled_listed list (Some n ∷ xs) each =
    ap (λ (bs : List ℕ). bs ++ flat_map (λ x. field_word (field_number list x)) xs) (one (each n (is_in-head n (named xs))))
    ∙ ap (λ (bs : List ℕ). word (Some (place_in list n)) ++ bs) (spelled_listed list xs (λ m h. each m (is_in-tail m n (named xs) h)))
  where
    one : is_in n list ≡ true → field_word (field_number list (Some n)) ≡ word (Some (place_in list n))
    one h = rw h refl

by_targets : (f : Option ℕ → List ℕ) (words : List ℕ) → flat_map (λ w. f (target_of w)) words ≡ flat_map f (map target_of words)
by_targets f [] = refl
by_targets f (w ∷ words) = ap (λ (bs : List ℕ). f (target_of w) ++ bs) (by_targets f words)

fields_spelled : (list words : List ℕ) → ((n : ℕ) → is_in n (named (map target_of words)) ≡ true → is_in n list ≡ true) → spelled_fields list words ≡ flat_map word (map (λ w. option_map (place_in list) (target_of w)) words)
fields_spelled list words each =
    by_targets (λ x. field_word (field_number list x)) words
    ∙ spelled_listed list (map target_of words) each
    ∙ ap (flat_map word) (sym (two_maps (place_in list) words))

-- ---- the line of an object

node_spelled : (leaf : Bool) (label : ℕ) (list words : List ℕ) (fields : List (Option ℕ)) → spelled_fields list words ≡ flat_map word fields → spelled_node leaf label list words ≡ object_line (record { label = label; leaf = leaf; fields = fields })
node_spelled true label list words fields e = refl
node_spelled false label list words fields e = ap (λ (bs : List ℕ). node_head false ++ (decimal label ++ (bs ++ line_feed))) e

pub node_line : (w : Core) (fields : ℕ) (n : Numbered) (i slot wide again label : ℕ) (leaf : Bool) (found : Option ℕ) (words now line : List ℕ) → IsWorld w → IsNumbered w fields n → now ≡ n.list → i < length now → slot ≡ get_or now i 0 → wide ≡ fields → again ≡ fields → words ≡ w.words
    → found ≡ label_of (get_or w.headers (get_or now i 0) 0) → label ≡ unwrap_or found 0 → leaf ≡ is_leaf (get_or w.headers (get_or now i 0) 0) → line ≡ spelled_node leaf label n.list (slice_range words (slot * wide) (slot * wide + again)) → line ≡ object_line (node_of (sight w) n.list (get_or n.list i 0))
node_line w fields n i slot wide again label leaf found words now line world numbered same within at e f all look opened marked spelled =
    let here : slot ≡ get_or n.list i 0 = at ∙ ap (λ (ns : List ℕ). get_or ns i 0) same in
    let inside : i < length n.list = subst (λ (ns : List ℕ). i < length ns) same within in
    let reached : Reaches (sight w) (get_or n.list i 0) = All-get_or (Reaches (sight w)) n.list i 0 inside numbered.numbers.reached in
    let own : slice_range words (slot * wide) (slot * wide + again) ≡ words_of (sight w) (get_or n.list i 0) = rw (e, f, numbered.same_fields, all, here) refl in
    let each : (m : ℕ) → is_in m (named (map target_of (words_of (sight w) (get_or n.list i 0)))) ≡ true → is_in m n.list ≡ true
    = λ m there. (lists_reached (roots (sight w).registers) (targets_of (sight w)) n.list numbered.numbers m).0 (child (get_or n.list i 0) m reached there) in
    let name : label ≡ label_in (get_or w.headers (get_or n.list i 0) 0) = opened ∙ ap (λ (x : Option ℕ). unwrap_or x 0) look ∙ header_label (get_or w.headers (get_or now i 0) 0) ∙ ap (λ (ns : List ℕ). label_in (get_or w.headers (get_or ns i 0) 0)) same in
    let mark : leaf ≡ is_leaf (get_or w.headers (get_or n.list i 0) 0) = marked ∙ ap (λ (ns : List ℕ). is_leaf (get_or w.headers (get_or ns i 0) 0)) same in
    spelled
    ∙ ap (spelled_node leaf label n.list) own
    ∙ node_spelled leaf label n.list (words_of (sight w) (get_or n.list i 0)) (map (λ word. option_map (place_in n.list) (target_of word)) (words_of (sight w) (get_or n.list i 0))) (fields_spelled n.list (words_of (sight w) (get_or n.list i 0)) each)
    ∙ ap (λ (k : ℕ). object_line (record { label = k; leaf = leaf; fields = map (λ word. option_map (place_in n.list) (target_of word)) (words_of (sight w) (get_or n.list i 0)) })) name
    ∙ ap (λ (b : Bool). object_line (record { label = label_in (get_or w.headers (get_or n.list i 0) 0); leaf = b; fields = map (λ word. option_map (place_in n.list) (target_of word)) (words_of (sight w) (get_or n.list i 0)) })) mark

-- ---- one line after another

more_written : {A : Type 0} (line : A → List ℕ) (xs : List A) (i : ℕ) (d : A) (first so_far piece more : List ℕ) → i < length xs → so_far ≡ first ++ flat_map line (take i xs) → piece ≡ line (get_or xs i d) → more ≡ so_far ++ piece → more ≡ first ++ flat_map line (take (i + 1) xs)
more_written line xs i d first so_far piece more within e f g =
    g ∙ ap (λ (bs : List ℕ). bs ++ piece) e ∙ append_assoc first (flat_map line (take i xs)) piece
    ∙ ap (λ (bs : List ℕ). first ++ (flat_map line (take i xs) ++ bs)) f
    ∙ ap (λ (bs : List ℕ). first ++ bs) (sym next_piece)
  where
    next_piece : flat_map line (take (i + 1) xs) ≡ flat_map line (take i xs) ++ line (get_or xs i d)
    next_piece = ap (flat_map line) (take_more xs i d within) ∙ flat_map-append line (take i xs) (get_or xs i d ∷ []) ∙ ap (λ (bs : List ℕ). flat_map line (take i xs) ++ bs) (append-nil (line (get_or xs i d)))

pub node_written : (w : Core) (n : Numbered) (i : ℕ) (now first so_far piece more : List ℕ) → now ≡ n.list → i < length now → so_far ≡ first ++ flat_map object_line (map (node_of (sight w) n.list) (take i n.list)) → piece ≡ object_line (node_of (sight w) n.list (get_or n.list i 0)) → more ≡ so_far ++ piece → more ≡ first ++ flat_map object_line (map (node_of (sight w) n.list) (take (i + 1) n.list))
node_written w n i now first so_far piece more same within e f g =
    let inside : i < length n.list = subst (λ (ns : List ℕ). i < length ns) same within in
    more_written (λ s. object_line (node_of (sight w) n.list s)) n.list i 0 first so_far piece more inside (e ∙ ap (λ (bs : List ℕ). first ++ bs) (through (take i n.list))) f g
    ∙ ap (λ (bs : List ℕ). first ++ bs) (sym (through (take (i + 1) n.list)))
  where
    through : (xs : List ℕ) → flat_map object_line (map (node_of (sight w) n.list) xs) ≡ flat_map (λ s. object_line (node_of (sight w) n.list s)) xs
    through [] = refl
    through (x ∷ xs) = ap (λ (bs : List ℕ). object_line (node_of (sight w) n.list x) ++ bs) (through xs)

-- the line of a mutator
pub row_written : (w : Core) (fields : ℕ) (n : Numbered) (t mutators : ℕ) (own : List (Option ℕ)) (first so_far piece more : List ℕ) → IsWorld w → IsNumbered w fields n → t < mutators → mutators ≡ w.config.mutators → own ≡ registers_of (sight w).registers (t + 1) → so_far ≡ first ++ flat_map registers_line (take t (held_of (sight w) n.list))
    → piece ≡ spelled_registers n.list own → more ≡ so_far ++ piece → more ≡ first ++ flat_map registers_line (take (t + 1) (held_of (sight w) n.list))
row_written w fields n t mutators own first so_far piece more world numbered within count is e f g =
    let size : length (sight w).registers ≡ w.config.mutators = length-map w.mutators (λ p. p.registers) ∙ world.shaped.mutators in
    let here : own ≡ get_or (sight w).registers t [] = is ∙ ap (λ (k : ℕ). get_or (sight w).registers k []) (let z : (t + 1) - 1 ≡ t = omega arith in z) in
    let each : (m : ℕ) → is_in m (named own) ≡ true → is_in m n.list ≡ true
    = λ m there. (lists_reached (roots (sight w).registers) (targets_of (sight w)) n.list numbered.numbers m).0 (root m (roots_at (sight w).registers t m (subst (λ (xs : List (Option ℕ)). is_in m (named xs) ≡ true) here there))) in
    let line : spelled_registers n.list own ≡ registers_line (map (option_map (place_in n.list)) own) = ap (λ (bs : List ℕ). codes "registers" ++ (bs ++ line_feed)) (spelled_listed n.list own each) in
    let there : get_or (held_of (sight w) n.list) t [] ≡ map (option_map (place_in n.list)) own = get_or-map (map (option_map (place_in n.list))) (sight w).registers t [] [] (omega arith) ∙ ap (map (option_map (place_in n.list))) (sym here) in
    more_written registers_line (held_of (sight w) n.list) t [] first so_far piece more (omega (arith, length-map (sight w).registers (map (option_map (place_in n.list))))) e (f ∙ line ∙ ap registers_line (sym there)) g
