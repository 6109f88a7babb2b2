-- Lists that stand one after another in one list, as the sets of the cycle buffer do.
use Rattle.std.specs.Prelude.{◌≡◌, ℕ, ◌-◌, ◌<◌, ◌≤◌, ◌^◌, List, [], ◌∷◌, ◌++◌, length, take, drop, slice_index_or as item_at, slice_set as changed_at}

-- the sets, and how many members all of them together may have
pub record Groups : Type 0 where
  pub sets : List (List ℕ)
  pub room : ℕ

-- the parts of a list that begin at these places
abbrev pub parts_at : List ℕ → List ℕ → List (List ℕ)
parts_at [] members = []
parts_at (start ∷ starts) members = take (item_at starts 0 (length members) - start) (drop start members) ∷ parts_at starts members

-- the places rise, and none lies past the end
abbrev pub IsRising : List ℕ → ℕ → Type 0
IsRising [] end = Unit {0}
IsRising (start ∷ starts) end = (start ≤ item_at starts 0 end) × IsRising starts end

-- what always holds of the places and the list: the first part begins at the front, and there is room for a part for each
pub record IsGrouped (starts members : List ℕ) (starts_room members_room : ℕ) : Type 0 where
  pub rising : IsRising starts (length members)
  pub from_front : item_at starts 0 (length members) ≡ 0
  pub within : length members ≤ members_room
  pub rooms : starts_room ≡ members_room
  pub small : members_room < 2 ^ 16

-- the last of the sets
abbrev pub last_set : List (List ℕ) → List ℕ
last_set sets = item_at sets (length sets - 1) []

-- the sets before the last
abbrev pub earlier_sets : List (List ℕ) → List (List ℕ)
earlier_sets sets = take (length sets - 1) sets

-- the sets, with one member more at the end of the last
abbrev pub with_member : List (List ℕ) → ℕ → List (List ℕ)
with_member sets x = changed_at sets (length sets - 1) (last_set sets ++ x ∷ [])
