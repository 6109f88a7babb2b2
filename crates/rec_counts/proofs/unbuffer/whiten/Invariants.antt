-- The loops of `whiten`.
use Rattle.std.proofs.Common.{◌≡◌, ℕ, ltb, take, get_or}
use Rattle.rec_counts.specs.Lists.{times}
use Rattle.rec_counts.specs.Slot.{absent, white_if}
use Rattle.rec_counts.proofs.unbuffer.whiten.Given as goal

abbrev pub invariant-loop-slot : goal.invariant-loop-slot
invariant-loop-slot l = (x : ℕ) → get_or l.slots x absent ≡ white_if (ltb 0 (times x (take l.slot-index l.members))) (get_or l.initial.slots x absent)
