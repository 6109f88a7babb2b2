-- The turn of a heap that a run ends in is one.
use Rattle.rec_core.proofs.Turn.{turn_is_one}
use Rattle.rec_core.proofs.laws.turns_keep_their_promises.Goals as goal

pub returns : goal.returns
returns c = turn_is_one
