-- The graph of a journal at a line: the references there, the roots, and what is on a path of references from a root. Each
-- is a function of the lines before that line.
use Rattle.std.specs.Prelude.{◌≡◌, ℕ, ◌-◌, ◌/◌, ◌==◌, ◌&&◌, ◌||◌, nat_lt, not, Bool, true, false, if◌then◌else◌, List, [], ◌∷◌, ◌++◌, map, filter, drop, Option, None, Some, slice_index}
use Rattle.std.specs.List.{flat_map, list_any, range_with_len}
use Rattle.rec_model.specs.Reach.{is_in, IsReached}
use Rattle.rec_word.specs.Word.{target_bits}
use Rattle.rec_audit.specs.declared.kind.Kind.{Kind}
use Rattle.rec_audit.specs.declared.kind.Kind.TheVariants.{Put, Born, Snap, Out, Free, Sweep}
use Rattle.rec_audit.specs.Lines.{Line}
use Rattle.rec_audit.specs.Form.{number, last_that, heap_of, is_epoch}

abbrev pub is_put : Kind → Bool
is_put Put = true
is_put _ = false

abbrev pub is_born : Kind → Bool
is_born Born = true
is_born _ = false

abbrev pub is_out : Kind → Bool
is_out Out = true
is_out _ = false

abbrev pub is_free : Kind → Bool
is_free Free = true
is_free _ = false

abbrev pub is_sweep : Kind → Bool
is_sweep Sweep = true
is_sweep _ = false

-- ---- blocks

-- the lines of the block that stands open, without its `epoch`
abbrev pub this_block : List Line → List Line
this_block [] = []
this_block (line ∷ lines) = if is_epoch line.kind || list_any (λ l. is_epoch l.kind) lines then this_block lines else line ∷ lines

-- the lines above the `epoch` of the block that stands open
abbrev pub earlier_blocks : List Line → List Line
earlier_blocks [] = []
earlier_blocks (line ∷ lines) = if list_any (λ l. is_epoch l.kind) lines then line ∷ earlier_blocks lines else []

-- ---- references

-- a word leads to a slot
abbrev pub has_target : (word : ℕ) → Bool
has_target word = nat_lt 0 (target_bits word)

-- a line opens a reference: it puts a word with a target into a field
abbrev pub opens : Line → Bool
opens line = is_put line.kind && has_target (number 2 line)

-- some lines have opened a reference of this word
abbrev pub is_opened : List Line → (word : ℕ) → Bool
is_opened lines word = list_any (λ line. opens line && (number 2 line == word)) lines

-- a line replaces this word in a field
abbrev pub closes : (word : ℕ) → Line → Bool
closes word line = is_put line.kind && (number 3 line == word)

-- a line takes this word out of a field
abbrev pub takes : (word : ℕ) → Line → Bool
takes word line = is_out line.kind && (number 1 line == word)

-- a reference of this word is gone, or closed in a block below the one that stands open
abbrev pub is_dead : List Line → (word : ℕ) → Bool
is_dead lines word = list_any (takes word) lines || list_any (closes word) (earlier_blocks lines)

-- a line opens a reference from a slot: the one that has the field
abbrev pub opens_from : (fields source : ℕ) → Line → Bool
opens_from fields source line = opens line && (number 1 line / fields == source)

-- where the reference that a line opens leads
abbrev pub target_in : Line → ℕ
target_in line = target_bits (number 2 line) - 1

-- where the references from a slot lead that are neither gone nor closed in a block below
abbrev pub targets : List Line → (source : ℕ) → List ℕ
targets lines source = map target_in (filter (λ line. not (is_dead lines (number 2 line))) (filter (opens_from (heap_of lines).fields source) lines))

-- ---- roots

-- the slots that registers hold, each told by one more than its number, or by 0 for none
abbrev pub held : List ℕ → List ℕ
held numbers = map (λ n. n - 1) (filter (λ n. nat_lt 0 n) numbers)

-- the slots that a line names as a root of its block
abbrev pub named_by : Kind → List ℕ → List ℕ
named_by Born numbers = slice_index numbers 1 ∷ []
named_by Snap numbers = held (drop 1 numbers)
named_by _ numbers = []

-- a line says that a slot was born or swept
abbrev pub tells : (slot : ℕ) → Line → Bool
tells slot line = (is_born line.kind && (number 1 line == slot)) || (is_sweep line.kind && (number 0 line == slot))

-- whether a slot is taken by the last line that tells of it; at the opening slot 0 alone is
abbrev pub taken_by : (slot : ℕ) → Option Line → Bool
taken_by slot None = slot == 0
taken_by slot (Some line) = is_born line.kind

-- a slot was born, and not swept since
abbrev pub is_taken : List Line → (slot : ℕ) → Bool
is_taken lines slot = taken_by slot (last_that (tells slot) lines)

-- the roots: the slots in the snapshots of the block that stands open, those born in it, and those that aren't taken
abbrev pub roots : List Line → List ℕ
roots lines = flat_map (λ line. named_by line.kind line.numbers) (this_block lines) ++ filter (λ slot. not (is_taken lines slot)) (range_with_len 0 (heap_of lines).slots)

-- a slot is on a path of references from a root
abbrev pub IsReachedAt : List Line → (slot : ℕ) → Type 0
IsReachedAt lines = IsReached (roots lines) (targets lines)

-- one of some slots is
pub record HasReached (lines : List Line) (slots : List ℕ) : Type 0 where
  pub member : ℕ
  pub listed : is_in member slots ≡ true
  pub reached : IsReachedAt lines member
