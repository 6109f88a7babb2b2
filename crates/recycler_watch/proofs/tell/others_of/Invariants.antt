-- What isn't as it was so far stands before the rest.
use Rattle.std.proofs.Common.{◌≡◌, ◌++◌, map, drop}
use Rattle.recycler_watch.specs.Data.{others}
use Rattle.recycler_watch.proofs.tell.others_of.Given as goal

abbrev pub invariant-loop-index : goal.invariant-loop-index
invariant-loop-index g l = map (λ one. one.now) l.found.items ++ others g.T.PartialEq.eq (drop l.index l.was) (drop l.index l.is) ≡ others g.T.PartialEq.eq l.was l.is
