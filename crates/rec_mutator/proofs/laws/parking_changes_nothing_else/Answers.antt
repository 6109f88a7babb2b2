-- The contract of `parking_changes_nothing_else`: who parks and unparks comes back as it was.
use Rattle.rec_mutator.proofs.Parked.{comes_back}
use Rattle.rec_mutator.proofs.laws.parking_changes_nothing_else.Goals as goal

pub returns : goal.returns
returns c = comes_back
