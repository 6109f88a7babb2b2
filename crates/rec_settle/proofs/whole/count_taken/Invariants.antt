-- The taken slots so far are counted.
use Rattle.std.proofs.Common.{◌≡◌, nat_lt, count_by, take}
use Rattle.rec_settle.proofs.whole.count_taken.Given as goal

abbrev pub invariant-loop-slot : goal.invariant-loop-slot
invariant-loop-slot l = l.taken ≡ count_by (λ header. nat_lt 0 header) (take l.slot l.world.headers)
