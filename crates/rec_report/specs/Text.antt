-- The text that a run writes, line by line.
use Rattle.std.specs.Prelude.{ℕ, ◌-◌, ◌<◌, Bool, true, false, ◌≡◌, List, [], ◌∷◌, ◌++◌, Option, None, Some, codes, length, map, take, count_by, slice_index_or}
use Rattle.std.specs.Fmt.{decimal}
use Rattle.std.specs.List.{flat_map, enumerate_from, sum_by}
use Rattle.rec_model.specs.declared.answer.Answer.{Answer}
use Rattle.rec_model.specs.declared.answer.Answer.TheVariants as answers
use Rattle.rec_model.specs.LegalOrder.{Line}
use Rattle.rec_model.specs.Numbering.{times}
use Rattle.rec_model.specs.Listing.{Row}
use Rattle.rec_world.specs.Numbering.{number_of}

-- the word of an answer
abbrev pub answer_word : Answer → List ℕ
answer_word answers.Done = codes "done"
answer_word answers.Null = codes "null"
answer_word answers.Object = codes "object"
answer_word (answers.Value label) = codes "value " ++ decimal label
answer_word answers.Yes = codes "yes"
answer_word answers.No = codes "no"
answer_word answers.NoObject = codes "none"
answer_word answers.Full = codes "full"
answer_word (answers.Busy before after) = codes "busy " ++ decimal before ++ codes " " ++ decimal after
answer_word answers.NoField = codes "nofield"
answer_word answers.NotYet = codes "notyet"
answer_word answers.LogFull = codes "logfull"

-- the end of a line
abbrev pub line_feed : List ℕ
line_feed = 10 ∷ []

-- the answer to a mutator's command with this number; mutators and commands are numbered from 1
abbrev pub answer_line : (t i : ℕ) → Answer → List ℕ
answer_line t i answer = decimal t ++ codes "." ++ decimal i ++ codes " " ++ answer_word answer ++ line_feed

-- the answers to one mutator
abbrev pub own_lines : ℕ → List Line → List (List ℕ)
own_lines t journal = map (λ p. answer_line t p.0 p.1.1.answer) (enumerate_from 1 journal)

-- the answers mutator by mutator
abbrev pub lines_by_mutator : List (List Line) → List (List ℕ)
lines_by_mutator journals = flat_map (λ p. own_lines p.0 p.1) (enumerate_from 1 journals)

-- the line of a mutator's turn, of whose turns so many stand before it
abbrev pub turn_line : List (List Line) → (t before : ℕ) → List ℕ
turn_line journals t before = slice_index_or (own_lines t (slice_index_or journals (t - 1) [])) before []

-- the answers in the order of the mutators' turns
abbrev pub lines_in_order : List (List Line) → List ℕ → List (List ℕ)
lines_in_order journals order = map (λ p. turn_line journals p.1 (times p.1 (take p.0 order))) (enumerate_from 0 order)

-- the answers in an order, or without one mutator by mutator
abbrev answer_lines : List (List Line) → Option (List ℕ) → List (List ℕ)
answer_lines journals None = lines_by_mutator journals
answer_lines journals (Some order) = lines_in_order journals order

-- an order names each mutator as often as its journal has lines, and nobody else
pub record IsOrderOf (journals : List (List Line)) (order : List ℕ) : Type 0 where
  pub each : (t : ℕ) → 0 < t → times t order ≡ length (slice_index_or journals (t - 1) [])
  pub nobody : times 0 order ≡ 0

-- how many objects are live
abbrev pub live_line : ℕ → List ℕ
live_line live = codes "live " ++ decimal live ++ line_feed

-- what a field leads to, behind a space
abbrev pub field_word : Option ℕ → List ℕ
field_word None = codes " -"
field_word (Some n) = codes " #" ++ decimal n

-- what a field's target is in a listing of slots
abbrev pub field_number : List ℕ → Option ℕ → Option ℕ
field_number slots None = None
field_number slots (Some slot) = number_of slots slot

-- what stands before a live object's label
abbrev label_word : (leaf : Bool) → List ℕ
label_word true = codes " leaf "
label_word false = codes " label "

-- the number of a live object, its label and its count
abbrev pub row_head : (n : ℕ) → (leaf : Bool) → (label count : ℕ) → List ℕ
row_head n leaf label count = codes "#" ++ decimal n ++ label_word leaf ++ decimal label ++ codes " count " ++ decimal count

-- what the fields lead to; those of a leaf aren't told, since they are null for good
abbrev pub field_words : (leaf : Bool) → List (Option ℕ) → List ℕ
field_words true fields = []
field_words false fields = codes " fields" ++ flat_map field_word fields

-- the live object with this number
abbrev pub row_line : ℕ → Row → List ℕ
row_line n row = row_head n row.leaf row.label row.count ++ field_words row.leaf row.fields ++ line_feed

-- the listing
abbrev pub row_lines : List Row → List (List ℕ)
row_lines rows = map (λ p. row_line p.0 p.1) (enumerate_from 1 rows)

-- the answers that the totals count as refusals
abbrev pub is_refused : Answer → Bool
is_refused answers.Full = true
is_refused (answers.Busy before after) = true
is_refused _ = false

-- how many commands were answered so
abbrev pub refusals : List (List Line) → ℕ
refusals journals = sum_by (count_by (λ line. is_refused line.1.answer)) journals

-- births with the opening one, refusals, and how many objects are live no more
abbrev pub totals_line : (made refused live : ℕ) → List ℕ
totals_line made refused live = codes "made " ++ decimal made ++ codes " refused " ++ decimal refused ++ codes " freed " ++ decimal (made - live) ++ line_feed

-- how many slots a trace lists, and how many hold objects before settling and after it
abbrev pub trace_line : (traced before after : ℕ) → List ℕ
trace_line traced before after = codes "trace " ++ decimal traced ++ codes " before " ++ decimal before ++ codes " after " ++ decimal after ++ line_feed

-- all lines
abbrev pub play_lines : List (List Line) → Option (List ℕ) → List Row → (made : ℕ) → List (List ℕ)
play_lines journals order rows made =
    answer_lines journals order ++ live_line (length rows) ∷ row_lines rows ++ totals_line made (refusals journals) (length rows) ∷ []

-- the text as a whole
abbrev pub play_text : List (List Line) → Option (List ℕ) → List Row → (made : ℕ) → List ℕ
play_text journals order rows made = flat_map (λ line. line) (play_lines journals order rows made)
