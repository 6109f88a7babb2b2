-- A list with a fixed room.
use Rattle.std.specs.Prelude.{ℕ, List, []}

-- what stands in it, and how much it may hold
pub record Shelf : Type 0 where
  pub list : List ℕ
  pub room : ℕ

-- one of this room that has nothing yet
abbrev pub empty : ℕ → Shelf
empty room = record { list = []; room = room }
