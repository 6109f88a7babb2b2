-- The mutators so far.
use Rattle.std.proofs.Common.{◌≡◌, map}
use Rattle.recycler_watch.specs.Seen.{mutator_seen, mutators_of}
use Rattle.recycler_watch.proofs.state.mutators_of.Given as goal

abbrev pub invariant-loop-index : goal.invariant-loop-index
invariant-loop-index l = map mutator_seen l.mutators.items ≡ mutators_of l.world l.index
