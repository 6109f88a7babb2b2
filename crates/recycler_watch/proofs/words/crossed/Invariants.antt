-- No mutator so far has crossed.
use Rattle.std.proofs.Common.{◌≡◌, map, drop}
use Rattle.recycler_watch.specs.Seen.{mutator_seen}
use Rattle.recycler_watch.specs.Sentence.{crossed}
use Rattle.recycler_watch.proofs.words.crossed.Given as goal

abbrev pub invariant-loop-index : goal.invariant-loop-index
invariant-loop-index l = crossed (map mutator_seen l.was) (map mutator_seen l.is) ≡ crossed (map mutator_seen (drop l.index l.was)) (map mutator_seen (drop l.index l.is))
