-- Where a field stands among all fields of a heap.
use Rattle.std.specs.Prelude.{ℕ, ◌+◌, ◌-◌, ◌*◌, List, map, flat_map}
use Rattle.std.specs.List.{range_with_len}

-- the objects before it have all their fields before it
abbrev pub place_of : (slot field fields : ℕ) → ℕ
place_of slot field fields = slot * fields + field

-- the places of a slot's fields in order, from this field on
abbrev pub places_from : (fields slot field : ℕ) → List ℕ
places_from fields slot field = map (λ f. place_of slot f fields) (range_with_len field (fields - field))

-- the places of these slots' fields, slot after slot
abbrev pub places_of : (fields : ℕ) → List ℕ → List ℕ
places_of fields slots = flat_map (λ slot. places_from fields slot 0) slots
