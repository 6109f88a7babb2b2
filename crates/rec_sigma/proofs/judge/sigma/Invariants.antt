-- The loops of `sigma`: whether the cyclic counts of the members of set `set` sum to zero: no reference was left to a member, but those seen in fields of members.
use Rattle.std.proofs.Common.{◌≡◌, take}
use Rattle.std.specs.List.{sum_by}
use Rattle.rec_counts.specs.Counts.{slot_at}
use Rattle.rec_sigma.proofs.judge.sigma.Given as goal

abbrev pub invariant-loop-slot : goal.invariant-loop-slot
invariant-loop-slot l = sum_by (λ x. (slot_at l.counts x).cyclic) (take l.slot-index l.slot-items) ≡ 0
