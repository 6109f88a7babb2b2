-- The slots so far have their counts; then every other slot is fresh.
use Rattle.std.proofs.Common.{◌≡◌, ◌-◌, ◌++◌, length, map, take, replicate}
use Rattle.rec_counts.specs.Counts.{counted}
use Rattle.rec_counts.specs.Slot.{fresh}
use Rattle.rec_counts.proofs.counts.counted_slots.Given as goal

abbrev pub invariant-loop-count : goal.invariant-loop-count
invariant-loop-count l = l.slots.items ≡ map counted (take l.count-index l.counts)

abbrev pub invariant-loop : goal.invariant-loop
invariant-loop l = l.slots.items ≡ map counted l.counts ++ replicate (l.counter - length l.counts) fresh
