-- The loop of `has_any`: no slot so far is marked.
use Rattle.std.proofs.Common.{◌≡◌, false, get_or, take}
use Rattle.std.specs.List.{list_any}
use Rattle.rec_audit.proofs.reach.Marks.has_any.Given as goal

abbrev pub invariant-loop-slot : goal.invariant-loop-slot
invariant-loop-slot l = list_any (λ slot. get_or l.self.marked.items slot false) (take l.slot-index l.slots) ≡ false
