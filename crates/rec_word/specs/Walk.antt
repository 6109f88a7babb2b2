-- A walk over the fields of the slots of a list.
use Rattle.std.proofs.Common.{zero, suc}
use Rattle.std.specs.Prelude.{◌≡◌, ℕ, ◌+◌, ◌<◌, Bool, true, false, nat_lt, Option, None, Some, List, [], ◌∷◌, ◌++◌, length, drop, take, slice_get, slice_index_or as item_at}
use Rattle.rec_word.specs.Place.{place_of, places_from, places_of}
use Rattle.rec_word.specs.declared.member.Member.{Member}

-- the first field of the first member
abbrev pub first_member : Option ℕ → Option Member
first_member None = None
first_member (Some x) = Some (record { index = 0; slot = x; field = 0 })

abbrev pub first_in : List ℕ → Option Member
first_in slots = first_member (slice_get slots 0)

abbrev pub next_member_if : Bool → List ℕ → Member → Option Member
next_member_if true slots a = Some (record { index = a.index + 1; slot = item_at slots (a.index + 1) 0; field = 0 })
next_member_if false slots a = None

-- the first field of the next member; none behind the last member
abbrev pub next_member : List ℕ → Member → Option Member
next_member slots a = next_member_if (nat_lt (a.index + 1) (length slots)) slots a

abbrev pub next_field_if : Bool → Member → Option Member
next_field_if true a = Some (record { index = a.index; slot = a.slot; field = a.field + 1 })
next_field_if false a = None

-- the next field of the same member; none behind its last one
abbrev pub next_field : (fields : ℕ) → Member → Option Member
next_field fields a = next_field_if (nat_lt (a.field + 1) fields) a

abbrev pub else_member : Option Member → List ℕ → Member → Option Member
else_member (Some b) slots a = Some b
else_member None slots a = next_member slots a

-- the field behind: the next of the same member, or after its last one the first of the next member
abbrev pub behind : (fields : ℕ) → List ℕ → Member → Option Member
behind fields slots a = else_member (next_field fields a) slots a

-- the member stands in the list where it says
pub record IsOf (slots : List ℕ) (a : Member) : Type 0 where
  pub index : a.index < length slots
  pub slot : a.slot ≡ item_at slots a.index 0

-- the places that the walk still has to pass
abbrev pub places_left : (fields : ℕ) → List ℕ → Option Member → List ℕ
places_left fields slots None = []
places_left fields slots (Some a) = places_from fields a.slot a.field ++ places_of fields (drop (a.index + 1) slots)

-- the places that a walk passes in so many steps
unfoldable pub walked : (fields : ℕ) → List ℕ → (steps : ℕ) → Option Member → List ℕ
walked fields slots zero at = []
walked fields slots (suc steps) None = []
walked fields slots (suc steps) (Some a) = place_of a.slot a.field fields ∷ walked fields slots steps (behind fields slots a)

-- in so many steps from the first member it passes so many of the list's places, in order, or all of them
abbrev pub HasWalked : (fields : ℕ) → List ℕ → (steps : ℕ) → Type 0
HasWalked fields slots steps = walked fields slots steps (first_in slots) ≡ take steps (places_of fields slots)
