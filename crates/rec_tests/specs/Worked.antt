-- What holds while a set is worked by hand.
use Rattle.std.specs.Prelude.{◌≡◌, [], length}
use Rattle.rec_counts.specs.Counts.{State}

-- eight slots, one set, and empty lists
pub record IsWorked (s : State) : Type 0 where
  pub slots : length s.slots ≡ 8
  pub sets : length s.sets ≡ 1
  pub work : s.work ≡ []
  pub zeros : s.zeros ≡ []
  pub free : s.free ≡ []
