-- What a sink in memory holds.
use Rattle.std.specs.Prelude.{ℕ, List}

-- the bytes written, for how many more there is room, the numbers of the calls that fail, how many calls were made,
-- and how many of them failed
pub record RoomState : Type 0 where
  pub written : List ℕ
  pub room : ℕ
  pub fails : List ℕ
  pub calls : ℕ
  pub faults : ℕ
