-- The contract of `recycler_poll`: a mutator crosses into the requested epoch, if it isn't in it.
use Rattle.recycler_c.proofs.export.recycler_poll.Goals as goal

pub returns : goal.returns
returns c = (c.poll.result, c.number.ensures, c.poll.ensures)
