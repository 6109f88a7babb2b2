-- What always holds of the slots and the lists.
use Rattle.std.specs.Prelude.{◌≡◌, ℕ, ◌+◌, ◌<◌, ◌≤◌, ◌^◌, List, [], length, slice_index_or as item_at}
use Rattle.std.specs.List.{concat}
use Rattle.rec_counts.specs.declared.slot.Slot.{Slot}
use Rattle.rec_counts.specs.Slot.{absent, is_in}
use Rattle.rec_counts.specs.Lists.{one, times, EachOnce}
use Rattle.rec_counts.specs.Touched.{Touching, untouched}

-- a slot is buffered exactly while it stands in the root buffer or in a set, and then it stands there once; it is in the
-- set whose number it has; and each of the other lists has each slot at most once
pub record Kept (slots : List Slot) (roots : List ℕ) (sets : List (List ℕ)) (marked work zeros free : List ℕ) : Type 0 where
  pub buffers : (x : ℕ) → times x roots + times x (concat sets) ≡ one (item_at slots x absent).buffered
  pub numbers : (number x : ℕ) → times x (item_at sets number []) ≡ one (is_in number (item_at slots x absent).set)
  pub few_sets : length sets ≤ length slots
  pub marked_once : EachOnce (length slots) marked
  pub work_once : EachOnce (length slots) work
  pub zeros_once : EachOnce (length slots) zeros
  pub free_once : EachOnce (length slots) free
  pub few_slots : length slots < 2 ^ 16

-- the room of each list: a queue has room for every slot twice, the marked list and the cycle buffer for every slot once; and no slot is
-- touched between two batches
pub record HasRoom (slots roots sets marked work zeros free : ℕ) (touched : Touching) : Type 0 where
  pub roots_room : roots ≡ slots + slots
  pub sets_room : sets ≡ slots
  pub marked_room : marked ≡ slots
  pub work_room : work ≡ slots + slots
  pub zeros_room : zeros ≡ slots + slots
  pub free_room : free ≡ slots + slots
  pub none_touched : touched ≡ untouched slots
