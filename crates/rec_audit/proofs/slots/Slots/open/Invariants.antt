-- The loop of `open`: the slots so far.
use Rattle.std.proofs.Common.{◌≡◌, ◌<◌, ◌==◌, ℕ, false, length, get_or}
use Rattle.rec_audit.proofs.slots.Slots.open.Given as goal

abbrev pub invariant-loop-slot : goal.invariant-loop-slot
invariant-loop-slot l = record {
  size : length l.taken.items ≡ l.slot;
  taken : (k : ℕ) → k < l.slot → get_or l.taken.items k false ≡ (k == 0);
}
