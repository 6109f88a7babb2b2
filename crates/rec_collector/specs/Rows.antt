-- A list that is cut into rows.
use Rattle.std.specs.Prelude.{ℕ, zero, suc, List, [], ◌∷◌, drop, take}

-- so many rows of this width, one behind the other
abbrev pub rows_of : {X : Type 0} → (width many : ℕ) → List X → List (List X)
rows_of width zero xs = []
rows_of width (suc many) xs = take width xs ∷ rows_of width many (drop width xs)
