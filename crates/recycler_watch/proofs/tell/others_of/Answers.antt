-- All was looked at.
use Rattle.recycler_watch.proofs.Lines.{others_end}
use Rattle.recycler_watch.proofs.tell.others_of.Goals as goal

pub returns : goal.returns
returns g c = others_end _ _ _ _ _ c.loop-index.index c.loop-index.invariant c.loop-index-test.false
