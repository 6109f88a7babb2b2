-- The loop of `mark_free`: of the slots so far those that aren't taken are marked.
use Rattle.std.proofs.Common.{false, not, filter, get_or}
use Rattle.std.specs.List.{range_with_len}
use Rattle.rec_audit.specs.States.{MarksMore}
use Rattle.rec_audit.proofs.reach.Marks.mark_free.Given as goal

abbrev pub invariant-loop-slot : goal.invariant-loop-slot
invariant-loop-slot l = MarksMore l.fn.self l.self (filter (λ slot. not (get_or l.taken slot false)) (range_with_len 0 l.slot))
