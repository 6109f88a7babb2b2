-- The loops of `give_up`.
use Rattle.std.proofs.Common.{◌≡◌, ℕ, ltb, take, get_or}
use Rattle.rec_counts.specs.Lists.{times}
use Rattle.rec_counts.specs.Slot.{absent, given_up_if}
use Rattle.rec_counts.proofs.unbuffer.give_up.Given as goal

abbrev pub invariant-loop-slot : goal.invariant-loop-slot
invariant-loop-slot l = (x : ℕ) → get_or l.slots x absent ≡ given_up_if (ltb 0 (times x (take l.slot-index l.members))) (get_or l.initial.slots x absent)
