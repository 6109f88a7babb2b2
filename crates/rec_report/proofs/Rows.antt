-- The rows of a settled world's listing, one after another.
use Rattle.std.proofs.Common.{◌≡◌, inl, inr, ℕ, ◌+◌, ◌*◌, ◌<◌, ◌≤◌, ◌++◌, Bool, true, List, [], ◌∷◌, Option, None, Some, map, take, length, get_or, refl, sym, ◌∙◌, ap, subst, arith, append_assoc}
use Rattle.std.specs.Prelude.{option_map, slice_range, unwrap_or}
use Rattle.std.proofs.lemmas.Bool.{cases_eq, ne_eqb}
use Rattle.std.proofs.lemmas.List.{get_or-map, length-map, take-map}
use Rattle.std.proofs.lemmas.List.Elements.{All-get_or}
use Rattle.rec_word.specs.Header.{is_leaf, label_of as label_in}
use Rattle.rec_word.specs.Word.{target_of}
use Rattle.rec_model.specs.Reach.{named, is_in}
use Rattle.rec_model.specs.Reach.IsReached.{child}
use Rattle.rec_model.specs.Heap.{roots}
use Rattle.rec_model.specs.Sight.{Sight, Reaches, NumbersSlots, targets_of, words_of, holders_of}
use Rattle.rec_model.specs.Listing.{Row, number_in, slot_row, ListsSlots}
use Rattle.rec_model.proofs.Members.{is_in-head, is_in-tail}
use Rattle.rec_model.proofs.Numbered.{lists_reached}
use Rattle.rec_world.specs.Numbering.{Numbered, number_of}
use Rattle.rec_counts.specs.Counts.{slot_at}
use Rattle.rec_model.proofs.Listed.{row_of}
use Rattle.rec_core.specs.Settled.{IsSettled}
use Rattle.rec_world.specs.World.{Core, sight, label_of, IsWorld}
use Rattle.rec_world.proofs.Filled.{reached_below, fields_end}
use Rattle.rec_world.proofs.Names.{names_sound}
use Rattle.rec_report.specs.Report.{IsNumbered}
use Rattle.rec_report.specs.Text.{field_number, live_line, row_line, row_lines}
use Rattle.rec_report.proofs.Counted.{counted_holders}
use Rattle.rec_report.proofs.AnswerLines.{added, next_numbered}

-- what a listed object's fields lead to is listed
fields_numbered : (list : List ℕ) (xs : List (Option ℕ)) → ((n : ℕ) → is_in n (named xs) ≡ true → is_in n list ≡ true) → map (field_number list) xs ≡ map (option_map (number_in list)) xs
fields_numbered list [] listed = refl
fields_numbered list (None ∷ xs) listed = ap (λ ys. None ∷ ys) (fields_numbered list xs listed)
fields_numbered list (Some n ∷ xs) listed =
    ap (λ x. x ∷ map (field_number list) xs) (here (listed n (is_in-head n (named xs))))
    ∙ ap (λ ys. Some (number_in list n) ∷ ys) (fields_numbered list xs (λ m h. listed m (is_in-tail m n (named xs) h)))
  where
    here : is_in n list ≡ true → number_of list n ≡ Some (number_in list n)
    here h = rw h refl

by_targets : {Y : Type 0} (f : Option ℕ → Y) (words : List ℕ) → map (λ word. f (target_of word)) words ≡ map f (map target_of words)
by_targets f [] = refl
by_targets f (word ∷ words) = ap (λ ys. f (target_of word) ∷ ys) (by_targets f words)

slot_fields : (w : Sight) (list : List ℕ) (slot : ℕ) → NumbersSlots w list → Reaches w slot → map (λ word. field_number list (target_of word)) (words_of w slot) ≡ map (λ word. option_map (number_in list) (target_of word)) (words_of w slot)
slot_fields w list slot numbers reached =
    by_targets (field_number list) (words_of w slot)
    ∙ fields_numbered list (map target_of (words_of w slot)) (λ n there. (lists_reached (roots w.registers) (targets_of w) list numbers n).0 (child slot n reached there))
    ∙ sym (by_targets (option_map (number_in list)) (words_of w slot))

pub header_label : (header : ℕ) → unwrap_or (label_of header) 0 ≡ label_in header
header_label header = elim (cases_eq header 0) [
  | inl e ↦ rw e refl
  | inr apart ↦ rw (ne_eqb header 0 apart) refl
]

-- a listed slot is one of the slots, and its words stand among all
pub listed_below : (w : Core) (fields : ℕ) (n : Numbered) (i : ℕ) → IsWorld w → IsNumbered w fields n → i < length n.list → get_or n.list i 0 < w.config.slots
listed_below w fields n i world numbered within =
    let below : get_or n.list i 0 < length w.headers = reached_below (sight w) (length w.headers) (names_sound (sight w) world.shaped.sound) (get_or n.list i 0) (All-get_or (Reaches (sight w)) n.list i 0 within numbered.numbers.reached) in
    let all : length w.headers ≡ w.config.slots = world.shaped.headers in
    omega arith

-- the words of a listed slot stand among all
pub words_end : (w : Core) (fields : ℕ) (n : Numbered) (i slot wide again : ℕ) (words list : List ℕ) → IsWorld w → IsNumbered w fields n → list ≡ n.list → i < length list → slot ≡ get_or list i 0 → wide ≡ fields → again ≡ fields → words ≡ w.words → slot * wide + again ≤ length words
words_end w fields n i slot wide again words list world numbered same within at e f all =
    let below : slot < w.config.slots = rw (at, same) (listed_below w fields n i world numbered (rw same at within)) in
    let end : slot * w.config.fields + w.config.fields ≤ w.config.slots * w.config.fields = fields_end slot w.config.slots w.config.fields below in
    let size : length w.words ≡ w.config.slots * w.config.fields = world.shaped.sound.places ∙ ap (λ k. k * w.config.fields) world.shaped.headers in
    rw (e, f, numbered.same_fields, all, size) end

-- the words that were read are the slot's
own_words : (w : Core) (fields slot wide again : ℕ) (words : List ℕ) → fields ≡ w.config.fields → wide ≡ fields → again ≡ fields → words ≡ w.words → slice_range words (slot * wide) (slot * wide + again) ≡ words_of (sight w) slot
own_words w fields slot wide again words size e f all = rw (e, f, size, all) refl

-- the row that is read off a listed slot, with its true count
read_row : (w : Core) (fields : ℕ) (n : Numbered) (i slot wide again label : ℕ) (leaf : Bool) (count : ℕ) (found : Option ℕ) (words : List ℕ) → IsWorld w → IsSettled w → IsNumbered w fields n → i < length n.list → slot ≡ get_or n.list i 0 → wide ≡ fields → again ≡ fields → words ≡ w.words → found ≡ label_of (get_or w.headers slot 0) → label ≡ unwrap_or found 0 → leaf ≡ is_leaf (get_or w.headers slot 0) → count ≡ (slot_at w.collector.counts slot).count → row_of label leaf count (map (λ word. field_number n.list (target_of word)) (slice_range words (slot * wide) (slot * wide + again))) ≡ slot_row (sight w) n.list (get_or n.list i 0)
read_row w fields n i slot wide again label leaf count found words world settled numbered within at e f all look opened marked counted =
    let header : ℕ = get_or w.headers slot 0 in
    let reached : Reaches (sight w) slot = subst (Reaches (sight w)) (sym at) (All-get_or (Reaches (sight w)) n.list i 0 within numbered.numbers.reached) in
    let listed : is_in slot n.list ≡ true = (lists_reached (roots (sight w).registers) (targets_of (sight w)) n.list numbered.numbers slot).0 reached in
    let fields_read : List (Option ℕ) = map (λ word. field_number n.list (target_of word)) (slice_range words (slot * wide) (slot * wide + again)) in
    ap (λ k. row_of k leaf count fields_read) (opened ∙ ap (λ x. unwrap_or x 0) look ∙ header_label header)
    ∙ ap (λ b. row_of (label_in header) b count fields_read) marked
    ∙ ap (λ k. row_of (label_in header) (is_leaf header) k fields_read) (counted ∙ counted_holders w n.list world settled numbered.numbers slot listed)
    ∙ ap (row_of (label_in header) (is_leaf header) (holders_of (sight w) n.list slot)) (
    ap (map (λ word. field_number n.list (target_of word))) (own_words w fields slot wide again words numbered.same_fields e f all)
    ∙ slot_fields (sight w) n.list slot numbered.numbers reached)
    ∙ ap (slot_row (sight w) n.list) at

-- the next row
pub row_step : (first so_far more : List (List ℕ)) (line : List ℕ) (w : Core) (list : List ℕ) (i : ℕ) (row : Row) → i < length list → so_far ≡ first ++ row_lines (map (slot_row (sight w) list) (take i list)) → line ≡ row_line (i + 1) row → row ≡ slot_row (sight w) list (get_or list i 0) → more ≡ so_far ++ line ∷ [] → more ≡ first ++ row_lines (map (slot_row (sight w) list) (take (i + 1) list))
row_step first so_far more line w list i row within e f is g =
    let rows : List Row = map (slot_row (sight w) list) list in
    let size : i < length rows = rw length-map within in
    let n : 1 + i ≡ i + 1 = omega arith in
    let d : Row = slot_row (sight w) list 0 in
    added first so_far more (line ∷ []) (row_lines (map (slot_row (sight w) list) (take i list))) (row_lines (map (slot_row (sight w) list) (take (i + 1) list))) e g (
    ap row_lines (sym (take-map (slot_row (sight w) list) (i + 1) list))
    ∙ next_numbered (λ p. row_line p.0 p.1) 1 rows i d size
    ∙ ap (λ rs. row_lines rs ++ row_line (1 + i) (get_or rows i d) ∷ []) (take-map (slot_row (sight w) list) i list)
    ∙ ap (λ r. row_lines (map (slot_row (sight w) list) (take i list)) ++ row_line (1 + i) r ∷ []) (get_or-map (slot_row (sight w) list) list i 0 d within ∙ sym is)
    ∙ ap (λ k. row_lines (map (slot_row (sight w) list) (take i list)) ++ row_line k row ∷ []) n
    ∙ ap (λ l. row_lines (map (slot_row (sight w) list) (take i list)) ++ l ∷ []) (sym f))

-- the same where the slot was read off the list
pub row_read : (w : Core) (fields : ℕ) (n : Numbered) (i slot wide again label : ℕ) (leaf : Bool) (count : ℕ) (found : Option ℕ) (words now : List ℕ) → IsWorld w → IsSettled w → IsNumbered w fields n → now ≡ n.list → i < length n.list → slot ≡ get_or now i 0 → wide ≡ fields → again ≡ fields → words ≡ w.words → found ≡ label_of (get_or w.headers (get_or now i 0) 0) → label ≡ unwrap_or found 0 → leaf ≡ is_leaf (get_or w.headers (get_or now i 0) 0) → count ≡ (slot_at w.collector.counts (get_or now i 0)).count → row_of label leaf count (map (λ word. field_number n.list (target_of word)) (slice_range words (slot * wide) (slot * wide + again))) ≡ slot_row (sight w) n.list (get_or n.list i 0)
row_read w fields n i slot wide again label leaf count found words now world settled numbered same within at e f all look opened marked counted =
    read_row w fields n i slot wide again label leaf count found words world settled numbered within (at ∙ ap (λ ns. get_or ns i 0) same) e f all
    (look ∙ ap (λ s. label_of (get_or w.headers s 0)) (sym at)) opened (marked ∙ ap (λ s. is_leaf (get_or w.headers s 0)) (sym at)) (counted ∙ ap (λ s. (slot_at w.collector.counts s).count) (sym at))

-- a listing behind the number of its rows
pub listed : (w : Core) (n : Numbered) (list : List ℕ) (live : ℕ) (first line more : List (List ℕ)) (head : List ℕ) → NumbersSlots (sight w) n.list → list ≡ n.list → live ≡ length list → head ≡ live_line live → line ≡ first ++ head ∷ [] → more ≡ line ++ row_lines (map (slot_row (sight w) n.list) n.list) → (rows : List Row) × ListsSlots (sight w) rows × (live ≡ length rows) × (more ≡ first ++ live_line live ∷ row_lines rows)
listed w n list live first line more head numbers same size e f g =
    let rows : List Row = map (slot_row (sight w) n.list) n.list in (
      rows,
      (n.list, numbers, refl),
      size ∙ ap length same ∙ sym (length-map n.list (slot_row (sight w) n.list)),
      g ∙ ap (λ ls. ls ++ row_lines rows) (f ∙ ap (λ l. first ++ l ∷ []) e) ∙ append_assoc first (live_line live ∷ []) (row_lines rows),
    )
