-- The words of a heap, and the one that an operation names.
use Rattle.std.specs.Prelude.{ℕ, ◌-◌, ◌<◌, ◌≤◌, ◌==◌, if◌then◌else◌, List, length, slice_index_or, slice_set}
use Rattle.rec_word.specs.Op.{cell_of}
use Rattle.rec_word.specs.declared.cell.Cell.{Cell}
use Rattle.rec_word.specs.declared.cell.Cell.TheVariants.{Field, Header, Epoch, Freed, Crossing}
use Rattle.rec_word.specs.declared.op.Op.{Op}
use Rattle.rec_word.specs.declared.op.Op.TheVariants.{ClaimHeader}

-- a header for each slot, a word for each field of each slot, the epoch word, the freed word, and a crossing word for each mutator
pub record Cells : Type 0 where
  pub headers : List ℕ
  pub words : List ℕ
  pub epoch : ℕ
  pub freed : ℕ
  pub crossing : List ℕ

-- the word is there
abbrev pub IsThere : Cells → Cell → Type 0
IsThere cells (Field place) = place < length cells.words
IsThere cells (Header slot) = slot < length cells.headers
IsThere cells Epoch = Unit {0}
IsThere cells Freed = Unit {0}
IsThere cells (Crossing t) = (1 ≤ t) × (t ≤ length cells.crossing)

-- the word itself
abbrev pub word_at : Cells → Cell → ℕ
word_at cells (Field place) = slice_index_or cells.words place 0
word_at cells (Header slot) = slice_index_or cells.headers slot 0
word_at cells Epoch = cells.epoch
word_at cells Freed = cells.freed
word_at cells (Crossing t) = slice_index_or cells.crossing (t - 1) 0

-- with this word there
abbrev pub with_word : Cells → Cell → ℕ → Cells
with_word cells (Field place) x = record cells { words = slice_set cells.words place x }
with_word cells (Header slot) x = record cells { headers = slice_set cells.headers slot x }
with_word cells Epoch x = record cells { epoch = x }
with_word cells Freed x = record cells { freed = x }
with_word cells (Crossing t) x = record cells { crossing = slice_set cells.crossing (t - 1) x }

-- the word that the operation names is there, and what a claim puts there is no free slot's header
abbrev pub IsWithin : Cells → Op → Type 0
IsWithin cells (ClaimHeader slot header) = (slot < length cells.headers) × (0 < header)
IsWithin cells op = IsThere cells (cell_of op)

-- the word that the operation names
abbrev pub cell : Cells → Op → ℕ
cell cells op = word_at cells (cell_of op)

-- with the word that the operation names replaced
abbrev pub with_cell : Cells → Op → ℕ → Cells
with_cell cells op x = with_word cells (cell_of op) x

-- the births of an operation that found this word: one where it claimed a free slot
abbrev pub births_of : Op → ℕ → ℕ
births_of (ClaimHeader slot header) found = if found == 0 then 1 else 0
births_of _ found = 0
