-- The contract of `turns_are_drawn_as_told`: no more turns are drawn than told; where none is, the commands run mutator by mutator.
use Rattle.rec_play.proofs.Orders.{drawn_few, order_undrawn}
use Rattle.rec_play.proofs.laws.turns_are_drawn_as_told.Goals as goal

pub returns : goal.returns
returns c = record { few = drawn_few; none = order_undrawn }
