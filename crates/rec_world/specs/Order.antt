-- What an order holds.
use Rattle.std.specs.Prelude.{ℕ, List}

-- the mutators in the order of their commands, and how many more fit
pub record Turns : Type 0 where
  pub list : List ℕ
  pub room : ℕ
