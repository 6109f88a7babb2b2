-- What a numbering of slots is, and what it has to be given.
use Rattle.std.specs.Prelude.{◌≡◌, ℕ, ◌<◌, ◌≤◌, ◌^◌, true, if◌then◌else◌, List, [], Option, None, Some, length, slice_index_or, unwrap_or}
use Rattle.rec_model.specs.Reach.{is_in}
use Rattle.rec_model.specs.Numbering.{IsDistinct}
use Rattle.rec_model.specs.Heap.{roots}
use Rattle.rec_model.specs.Listing.{number_in}
use Rattle.rec_model.specs.Sight.{Sight, targets_of}

-- how many slots there are, and those that are numbered, in order
pub record Numbered : Type 0 where
  pub slots : ℕ
  pub list : List ℕ

-- the number of a slot in the list, from 1
abbrev pub number_of : List ℕ → ℕ → Option ℕ
number_of list slot = if is_in slot list then Some (number_in list slot) else None

-- one number for each slot, 0 where it isn't listed, and room for as many in the list
pub record HoldsNumbers (list by_slot : List ℕ) (capacity : ℕ) : Type 0 where
  pub room : length by_slot ≤ capacity
  pub in_range : length by_slot < 2 ^ 16
  pub distinct : IsDistinct list
  pub numbers : (slot : ℕ) → slice_index_or by_slot slot 0 ≡ unwrap_or (number_of list slot) 0

-- what the registers, mutator by mutator, and the words show; a numbering asks for no header
abbrev pub sight_of : (registers : List (List (Option ℕ))) (words : List ℕ) (fields : ℕ) → Sight
sight_of registers words fields = record { fields = fields; headers = []; words = words; registers = registers }

-- registers and fields name slots below this number
pub record NamesBelow (w : Sight) (slots : ℕ) : Type 0 where
  pub registers : (slot : ℕ) → is_in slot (roots w.registers) ≡ true → slot < slots
  pub fields : (s slot : ℕ) → is_in slot (targets_of w s) ≡ true → slot < slots
