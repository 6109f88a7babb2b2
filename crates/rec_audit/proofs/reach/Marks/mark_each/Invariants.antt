-- The loop of `mark_each`: the slots so far are marked.
use Rattle.std.proofs.Common.{take}
use Rattle.rec_audit.specs.States.{MarksMore}
use Rattle.rec_audit.proofs.reach.Marks.mark_each.Given as goal

abbrev pub invariant-loop-slot : goal.invariant-loop-slot
invariant-loop-slot l = MarksMore l.fn.self l.self (take l.slot-index l.slots)
