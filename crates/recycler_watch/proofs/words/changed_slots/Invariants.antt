-- The slots that changed so far stand before those that are left.
use Rattle.std.proofs.Common.{◌≡◌, ◌++◌, map, drop}
use Rattle.recycler_watch.specs.Seen.{slot_seen}
use Rattle.recycler_watch.specs.Sentence.{changed_slots}
use Rattle.recycler_watch.proofs.words.changed_slots.Given as goal

abbrev pub invariant-loop-index : goal.invariant-loop-index
invariant-loop-index l = map (λ p. (slot_seen p.0.now, slot_seen p.1.now)) l.changed.items ++ changed_slots (map slot_seen (drop l.index l.was)) (map slot_seen (drop l.index l.is)) ≡ changed_slots (map slot_seen l.was) (map slot_seen l.is)
