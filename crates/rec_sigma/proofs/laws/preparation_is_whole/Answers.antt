-- The contract of `preparation_is_whole`: whatever words it is given, a preparation loads each field of each member of each set once and in order, and no other.
use Rattle.rec_sigma.proofs.Runs.{whole_preparation}
use Rattle.rec_sigma.proofs.laws.preparation_is_whole.Goals as goal

pub returns : goal.returns
returns c = whole_preparation
