-- The contract of `recycler_turn`: one turn of the collector of a running heap.
use Rattle.recycler_c.proofs.export.recycler_turn.Goals as goal

pub returns : goal.returns
returns c = (c.turn.result, c.number.ensures, c.turn.ensures)
