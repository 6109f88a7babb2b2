-- What always holds of the counts still does once a set is refurbished, and as a preparation goes on.
use Rattle.std.proofs.Common.{◌≡◌, ℕ, Option, List, [], slice_get, refl, arith, ap, ◌∷◌}
use Rattle.std.proofs.lemmas.List.{length-set}
use Rattle.rec_word.specs.Word.{is_slot}
use Rattle.rec_counts.specs.declared.slot.Slot.{Slot}
use Rattle.rec_counts.specs.Counts.{State, IsKept, slot_at, without_last_set}
use Rattle.rec_counts.specs.Groups.{last_set}
use Rattle.rec_counts.specs.Kept.{Kept}
use Rattle.rec_counts.proofs.Keeping.{keep_push_root, keep_slot, relisted, slots_kept, dropped_kept}
use Rattle.rec_counts.proofs.Times.{once_none, once_push, one-same, times-cons}
use Rattle.rec_sigma.specs.declared.fate.Fate.{Fate}
use Rattle.rec_sigma.specs.declared.fate.Fate.TheVariants.{Free, Zero, Root, Plain}
use Rattle.rec_sigma.specs.Prepared.{KeepsOthers}
use Rattle.rec_sigma.specs.Refurbish.{coloured, fate_at, IsRefusable}
use Rattle.rec_sigma.specs.Settling.{refurbished_of, settled, settled_all}
use Rattle.rec_sigma.proofs.Renewals.{dropped, free_unlisted, waiting_first, waiting_rest, zero_unlisted, IsDue, IsWaiting}

-- a member of a refused set gets its place
settled_kept : (f : Fate) (s : State) (first : Option ℕ) (x : ℕ) → f ≡ fate_at s first x → IsDue s x → IsKept s → IsKept (settled f s x)
settled_kept Free s first x e d k = relisted k k.marked_once k.work_once k.zeros_once (once_push _ s.free x k.free_once (free_unlisted s x (is_slot x first) Free d e refl) d.in_range)
settled_kept Zero s first x e d k =
    let k' = keep_slot k x (coloured Zero (slot_at s x)) refl refl in
    relisted k' k'.marked_once k'.work_once
    (once_push _ s.zeros x k'.zeros_once (zero_unlisted s x (is_slot x first) Zero d e refl) (omega (arith, d.in_range, length-set s.slots x (coloured Zero (slot_at s x))))) k'.free_once
settled_kept Root s first x e d k = keep_push_root k x (coloured Root (slot_at s x)) d.in_range d.unbuffered refl refl
settled_kept Plain s first x e d k = keep_slot k x (coloured Plain (slot_at s x)) refl refl

all_kept : (first : Option ℕ) (xs : List ℕ) (s : State) → IsWaiting s xs → IsKept s → IsKept (settled_all first xs s)
all_kept first [] s w k = k
all_kept first (x ∷ xs) s w k =
    let f : Fate = fate_at s first x in
    all_kept first xs (settled f s x) (waiting_rest f s x xs w) (settled_kept f s first x refl (w.due x (omega (arith, times-cons x x xs, one-same x))) k)

-- the last set is refurbished
pub refurbished_kept : (s : State) → IsRefusable s → IsKept s → IsKept (refurbished_of s)
unfolding refurbished_of
refurbished_kept s r k =
    let d : IsKept (without_last_set s) = dropped_kept s r.some r.work k in
    all_kept (slice_get (last_set s.sets) 0) (last_set s.sets) (dropped s) (waiting_first s k r) (relisted d d.marked_once (once_none _) d.zeros_once d.free_once)

-- nothing but cyclic counts changes
pub others_kept : (s t : State) → KeepsOthers s t → IsKept s → IsKept t
others_kept s t o k =
    let same : Kept t.slots s.roots s.sets s.marked s.work s.zeros s.free = slots_kept k t.slots o.many (λ x. ap (λ (v : Slot). v.buffered) (o.slots x)) (λ x. ap (λ (v : Slot). v.set) (o.slots x)) in
    rw (o.roots, o.sets, o.marked, o.work, o.zeros, o.free) same
