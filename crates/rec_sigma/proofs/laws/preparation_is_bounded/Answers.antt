-- The contract of `preparation_is_bounded`: a preparation loads no more fields than the members have, and they have no more than all slots have.
use Rattle.rec_sigma.proofs.Bounds.{few_loads}
use Rattle.rec_sigma.proofs.laws.preparation_is_bounded.Goals as goal

pub returns : goal.returns
returns c = few_loads
