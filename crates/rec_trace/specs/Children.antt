-- What the fields of slots lead to, read off the words of all fields, and which of that isn't found yet.
use Rattle.std.specs.Prelude.{◌≡◌, ℕ, ◌+◌, ◌*◌, ◌<◌, true, not, List, filter, map, length, slice_range}
use Rattle.std.specs.List.{flat_map}
use Rattle.rec_word.specs.Word.{target_of}
use Rattle.rec_model.specs.Reach.{is_in, named}

-- what the fields of a slot lead to, in order; each slot has this many words
abbrev pub children : (words : List ℕ) → (fields slot : ℕ) → List ℕ
children words fields slot = named (map target_of (slice_range words (slot * fields) (slot * fields + fields)))

-- what the fields of some slots lead to, slot by slot
abbrev pub all_children : (words : List ℕ) → (fields : ℕ) → (slots : List ℕ) → List ℕ
all_children words fields slots = flat_map (children words fields) slots

-- those of some slots that aren't found yet
abbrev pub unmet : (found slots : List ℕ) → List ℕ
unmet found slots = filter (λ slot. not (is_in slot found)) slots

-- each slot of a list is one of so many
abbrev pub AreBelow : (slots : ℕ) → List ℕ → Type 0
AreBelow slots list = (slot : ℕ) → is_in slot list ≡ true → slot < slots

-- The words are the fields of so many slots, and lead to such slots.
pub record AreFieldsOf (slots : ℕ) (words : List ℕ) (fields : ℕ) : Type 0 where
  pub places : length words ≡ slots * fields
  pub leads : (slot : ℕ) → AreBelow slots (children words fields slot)
