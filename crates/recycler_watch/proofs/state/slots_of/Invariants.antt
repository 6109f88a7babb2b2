-- The slots so far.
use Rattle.std.proofs.Common.{◌≡◌, map}
use Rattle.recycler_watch.specs.Seen.{slot_seen, slots_of}
use Rattle.recycler_watch.proofs.state.slots_of.Given as goal

abbrev pub invariant-loop-slot : goal.invariant-loop-slot
invariant-loop-slot l = map slot_seen l.slots.items ≡ slots_of l.world l.slot
