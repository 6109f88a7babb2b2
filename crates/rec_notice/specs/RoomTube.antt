-- What a tube in memory holds.
use Rattle.std.specs.Prelude.{ℕ, List}

-- the labels that were sent, for how many there is room, and how many were refused
pub record RoomState : Type 0 where
  pub sent : List ℕ
  pub room : ℕ
  pub refusals : ℕ
