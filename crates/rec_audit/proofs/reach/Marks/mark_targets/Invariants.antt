-- The loop of `mark_targets`: where the references so far lead is marked.
use Rattle.std.proofs.Common.{map, take}
use Rattle.rec_audit.specs.States.{MarksMore}
use Rattle.rec_audit.proofs.reach.Marks.mark_targets.Given as goal

abbrev pub invariant-loop-edge : goal.invariant-loop-edge
invariant-loop-edge l = MarksMore l.fn.self l.self (map (λ e. e.to) (take l.edge-index l.edges))
