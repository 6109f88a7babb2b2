-- The loops of `Queue::push_each`: appends all of `slots` one after another.
use Rattle.std.proofs.Common.{◌≡◌, ◌++◌, take}
use Rattle.rec_counts.proofs.queue.Queue.push_each.Given as goal

abbrev pub invariant-loop-slot : goal.invariant-loop-slot
invariant-loop-slot l = l.self ≡ record l.initial.self { list = l.initial.self.list ++ take l.slot-index l.slots }
