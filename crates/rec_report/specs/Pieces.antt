-- A list of numbers that is cut into pieces.
use Rattle.std.specs.Prelude.{ℕ, List, [], ◌∷◌, take, drop}

-- the pieces of these lengths, one after another from the front
abbrev pub pieces : (lengths numbers : List ℕ) → List (List ℕ)
pieces [] numbers = []
pieces (n ∷ ns) numbers = take n numbers ∷ pieces ns (drop n numbers)
