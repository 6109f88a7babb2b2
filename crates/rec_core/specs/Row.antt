-- The shared words of a heap as one row.
use Rattle.std.specs.Prelude.{◌≡◌, ℕ, ◌+◌, List, ◌∷◌, ◌++◌, take, drop, slice_index_or}
use Rattle.rec_word.specs.Op.{cell_of}
use Rattle.rec_word.specs.declared.cell.Cell.{Cell}
use Rattle.rec_word.specs.declared.cell.Cell.TheVariants.{Field, Header, Epoch, Freed, Crossing}
use Rattle.rec_word.specs.declared.op.Op.{Op}
use Rattle.rec_core.specs.Cells.{Cells}
use Rattle.rec_core.specs.declared.layout.Layout.{Layout}

-- the fields by place, a header for each slot, the epoch word, the freed word, and a crossing word for each mutator
abbrev pub row : Cells → List ℕ
row cells = cells.words ++ (cells.headers ++ (cells.epoch ∷ cells.freed ∷ cells.crossing))

-- where a word stands in a row with so many fields and headers
abbrev pub index_at : (places slots : ℕ) → Cell → ℕ
index_at places slots (Field place) = place
index_at places slots (Header slot) = places + slot
index_at places slots Epoch = places + slots
index_at places slots Freed = places + slots + 1
index_at places slots (Crossing t) = places + slots + 1 + t

-- the freed word stands behind the fields, the headers and the epoch word
abbrev pub IsLayout : Layout → Type 0
IsLayout layout = layout.freed ≡ layout.places + layout.slots + 1

-- where the word of an operation does
abbrev pub index_of : (places slots : ℕ) → Op → ℕ
index_of places slots op = index_at places slots (cell_of op)

-- the words that a row with so many fields and headers holds
abbrev pub cells_of_row : (places slots : ℕ) → List ℕ → Cells
cells_of_row places slots words =
    record {
      headers = take slots (drop places words);
      words = take places words;
      epoch = slice_index_or words (places + slots) 0;
      freed = slice_index_or words (places + slots + 1) 0;
      crossing = drop (places + slots + 2) words;
    }
