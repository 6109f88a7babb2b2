-- What always holds of the counts still does while slots are released, a set is freed, and slots are swept.
use Rattle.std.proofs.Common.{◌≡◌, ℕ, Bool, true, false, Option, None, Some, IfSome, List, [], length, refl, arith, ap, inl, inr, ◌<◌, ◌∷◌, ◌-◌}
use Rattle.std.proofs.lemmas.Bool.{cases_lt}
use Rattle.rec_counts.specs.Counts.{State, slot_at, IsKept}
use Rattle.rec_counts.specs.Lists.{times}
use Rattle.rec_counts.specs.Rest.{AreZeros}
use Rattle.rec_counts.specs.Slot.{lowered, swept_clean}
use Rattle.rec_counts.specs.declared.slot.Slot.{Slot}
use Rattle.rec_counts.proofs.Decrementing.{decremented_kept}
use Rattle.rec_counts.proofs.Keeping.{keep_slot, relisted, last_new}
use Rattle.rec_counts.proofs.Leaving.{keep_given_up}
use Rattle.rec_counts.proofs.Times.{once_none, once_push, once_rest, times-append, times-cons}
use Rattle.rec_release.specs.CycleFree.{listed, given_up}
use Rattle.rec_release.specs.Release.{emptied, listed_if, without_first}
use Rattle.rec_release.specs.Sweep as sweeps
use Rattle.rec_release.specs.TakenOff.{down_if, is_lowered, taken_off}

-- a reference that came out is taken off: its target is lowered or decremented
down_off_kept : (b : Bool) (s : State) (x : ℕ) → 0 < (slot_at s x).count → AreZeros s → IsKept s → IsKept (down_if b s x)
down_off_kept true s x h z k = keep_slot k x (lowered (slot_at s x)) refl refl
down_off_kept false s x h z k = decremented_kept s x h z k

pub off_kept : (lowers : Bool) (s : State) (t : Option ℕ) → IfSome t (λ x. 0 < (slot_at s x).count) → AreZeros s → IsKept s → IsKept (taken_off lowers s t)
off_kept lowers s None h z k = k
off_kept lowers s (Some x) h z k = down_off_kept (is_lowered lowers (slot_at s x).colour) s x h z k

-- a slot is emptied that isn't in the free list yet
listed_kept : (b : Bool) (s : State) (x : ℕ) → x < length s.slots → times x s.free ≡ 0 → IsKept s → IsKept (listed_if b s x)
listed_kept true s x l n k = k
listed_kept false s x l n k = relisted k k.marked_once k.work_once k.zeros_once (once_push _ s.free x k.free_once n l)

pub emptied_kept : (s : State) (x : ℕ) → x < length s.slots → times x s.free ≡ 0 → IsKept s → IsKept (emptied s x)
emptied_kept s x l n k = listed_kept (slot_at s x).buffered s x l n k

-- the first of the zeros is released
pub first_kept : (zs : List ℕ) (s : State) → s.zeros ≡ zs → IsKept s → IsKept (without_first zs s)
first_kept [] s e k = k
first_kept (z ∷ zs) s e k =
    let k' = keep_slot k z (record (slot_at s z) { released = true }) refl refl in
    relisted k' k'.marked_once k'.work_once (λ y. omega (arith, k'.zeros_once y, ap (times y) e, times-cons y z zs)) k'.free_once

-- a slot is swept
pub sweep_kept : (s : State) (due : Option ℕ) → IsKept s → IsKept (sweeps.took_at (record { due = due; counts = s }) due).counts
sweep_kept s None k = k
sweep_kept s (Some x) k =
    let k' = keep_slot k x (swept_clean (slot_at s x)) refl refl in
    relisted k' k'.marked_once k'.work_once k'.zeros_once (once_rest _ s.free k'.free_once)

-- the members of a set that is freed go to the free list
pub members_listed : (s : State) → ((x : ℕ) → 0 < times x s.work → times x s.free ≡ 0) → IsKept s → IsKept (listed s)
members_listed s n k = relisted k k.marked_once (once_none _) k.zeros_once (λ x. elim (cases_lt 0 (times x s.work)) [
  | inl l ↦ omega (arith, times-append x s.free s.work, n x l, k.work_once x)
  | inr l ↦ omega (arith, times-append x s.free s.work, l, k.free_once x)
])

-- the last set is given up
pub given_kept : (s : State) → 0 < length s.sets → s.work ≡ [] → IsKept s → IsKept (given_up s)
given_kept s some work k = keep_given_up k some (last_new s work k)
