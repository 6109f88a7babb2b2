-- The shared words of a heap in one row, and the index of the slots that are free.
use Rattle.std.specs.Prelude.{◌≡◌, ℕ, ◌<◌, ◌^◌, ◌==◌, List, if◌then◌else◌, length, slice_index_or}
use Rattle.rec_index.specs.Sets.{bit}
use Rattle.rec_word.specs.declared.cell.Cell.{Cell}
use Rattle.rec_word.specs.declared.cell.Cell.TheVariants.{Header}
use Rattle.rec_core.specs.Cells.{Cells}
use Rattle.rec_core.specs.Row.{cells_of_row, IsLayout}
use Rattle.rec_world.specs.declared.memory.Memory.TheInside.{Inside}

-- the words
abbrev pub cells : Inside → Cells
cells inside = cells_of_row inside.layout.places inside.layout.slots inside.row.items

-- just the slots whose headers are 0 are members
abbrev pub Finds : (headers index : List ℕ) → Type 0
Finds headers index = (s : ℕ) → bit index s ≡ (if slice_index_or headers s 1 == 0 then 1 else 0)

-- the row is long enough for its fields, headers and the two words behind them, and the index tells its free slots
pub record IsLaidOut (inside : Inside) : Type 0 where
  pub layout : IsLayout inside.layout
  pub long : inside.layout.freed < length inside.row.items
  pub few : inside.layout.slots < 2 ^ 16
  pub free : Finds (cells inside).headers inside.free

-- the word is no header
abbrev pub IsNoHeader : Cell → Type 0
IsNoHeader (Header slot) = ⊥
IsNoHeader _ = Unit {0}
