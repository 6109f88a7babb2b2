-- The listing of a heap: a row for each live object, in the numbering's order.
use Rattle.std.specs.Prelude.{◌≡◌, ℕ, Bool, ◌+◌, ◌==◌, List, Option, option_map, map, slice_index_or}
use Rattle.std.specs.List.{position_or_len}
use Rattle.rec_word.specs.Header.{is_leaf, label_of}
use Rattle.rec_word.specs.Word.{target_of}
use Rattle.rec_model.specs.Heap.{Heap, object, count_of, IsListed}
use Rattle.rec_model.specs.Sight.{Sight, words_of, holders_of, NumbersSlots}

-- a live object's label and leaf mark, how many fields and registers hold it, and the number of what each of its fields leads to
pub record Row : Type 0 where
  pub label : ℕ
  pub leaf : Bool
  pub count : ℕ
  pub fields : List (Option ℕ)

-- the number of an object in a listing, from 1
abbrev pub number_in : List ℕ → ℕ → ℕ
number_in ns n = position_or_len (λ m. m == n) ns + 1

-- an object's row
abbrev pub row : Heap → List ℕ → ℕ → Row
row heap ns n =
    record {
      label = (object heap n).label;
      leaf = (object heap n).leaf;
      count = count_of heap ns n;
      fields = map (λ x. option_map (number_in ns) x.target) (object heap n).fields;
    }

-- the rows are those of the live objects, in the numbering's order
abbrev pub IsListing : Heap → List Row → Type 0
IsListing heap rows = (ns : List ℕ) × IsListed heap ns × (rows ≡ map (row heap ns) ns)

-- the row of the object in a slot
abbrev pub slot_row : Sight → List ℕ → ℕ → Row
slot_row w slots slot =
    record {
      label = label_of (slice_index_or w.headers slot 0);
      leaf = is_leaf (slice_index_or w.headers slot 0);
      count = holders_of w slots slot;
      fields = map (λ word. option_map (number_in slots) (target_of word)) (words_of w slot);
    }

-- the rows are those of the slots that a register reaches, in the numbering's order
abbrev pub ListsSlots : Sight → List Row → Type 0
ListsSlots w rows = (slots : List ℕ) × NumbersSlots w slots × (rows ≡ map (slot_row w slots) slots)
