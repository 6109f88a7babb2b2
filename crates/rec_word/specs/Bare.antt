-- A heap has bare words, of 64 bits. Laws speak of heaps whose field words have a date beside them: the epoch of the write that put them.
use Rattle.std.specs.Prelude.{ℕ, ◌+◌, ◌*◌, ◌/◌, ◌%◌, ◌^◌, Bool, true, false}
use Rattle.rec_word.specs.declared.cell.Cell.{Cell}
use Rattle.rec_word.specs.declared.cell.Cell.TheVariants.{Field}
use Rattle.rec_word.specs.declared.op.Op.{Op}
use Rattle.rec_word.specs.declared.op.Op.TheVariants.{SwapField}

-- the word without its date
abbrev pub bare : (word : ℕ) → ℕ
bare word = word % 2 ^ 64

-- the date of a word: 0 where it has none
abbrev pub date_of : (word : ℕ) → ℕ
date_of word = word / 2 ^ 64

-- a word of 64 bits, with this epoch as its date where words are dated
abbrev pub dated_word : (dates : Bool) → (epoch word : ℕ) → ℕ
dated_word false epoch word = word
dated_word true epoch word = 2 ^ 64 * epoch + word

-- what a heap of bare words has in this cell, where one of dated words has this
abbrev pub bare_in : Cell → (word : ℕ) → ℕ
bare_in (Field place) word = bare word
bare_in cell word = word

-- the operation that puts the bare word
abbrev pub bare_op : Op → Op
bare_op (SwapField place word) = SwapField place (bare word)
bare_op op = op
