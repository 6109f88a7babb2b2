-- What the calls of a trial require, from what holds of it.
use Rattle.std.proofs.Common.{◌≡◌, ℕ, ◌-◌, ◌<◌, Bool, true, false, ltb, Some, List, [], ◌∷◌, ◌++◌, length, get_or, slice_get, refl, sym, ap, ◌∙◌, arith}
use Rattle.std.specs.List.{concat}
use Rattle.std.proofs.Math.ListN.{set}
use Rattle.std.proofs.lemmas.List.{get_or-set_same, length-set, set-set}
use Rattle.std.proofs.lemmas.Bool.{false_from_ne_true, ltb-false}
use Rattle.rec_trial.proofs.Common.{Gray, White, State, IsKept, slot_at, with_slot, without_root, is_gray, is_white, field_kept, member_room, first_root_in_range, CanMark, CanScan, CanCollect}
use Rattle.rec_counts.specs.declared.colour.Colour.{Colour}
use Rattle.rec_counts.specs.declared.colour.Colour.TheVariants.{Black, Purple, Orange, Green}
use Rattle.rec_counts.specs.declared.slot.Slot.{Slot}
use Rattle.rec_counts.specs.Lists as in_counts
use Rattle.rec_counts.specs.Slot.{absent, white_if}
use Rattle.rec_counts.proofs.Leaving.{all_of}
use Rattle.rec_counts.proofs.Times.{times-nil, times-cons, times_at, in_range_once, one-same, one-none}
use Rattle.rec_trial.specs.Postponed.{AreUnlisted}
use Rattle.rec_trial.specs.Moves.{one_off, touched_if, whitened, all_whitened}

pub unbuffered_white : (s : State) → IsKept s → CanCollect s → (x : ℕ) → is_white (slot_at s x).colour ≡ true → (slot_at s x).buffered ≡ false
unbuffered_white s k c x e =
    let roots : in_counts.times x s.roots ≡ 0 = ap (in_counts.times x) c.roots ∙ times-nil x in
    let sets : in_counts.times x (concat s.sets) ≡ 0 = grind (arith, c.members x, e) in
    one-none (slot_at s x).buffered (omega (arith, k.buffers x))

-- so there is room for a set more
pub set_room : (s : State) → IsKept s → CanCollect s → (x : ℕ) → x < length s.slots → is_white (slot_at s x).colour ≡ true → length s.sets < length s.slots
set_room s k c x l e = omega (arith, c.few, member_room k x l (unbuffered_white s k c x e))

-- what is written twice is written once
pub touched_off : (s : State) (x : ℕ) → x < length s.slots → record (with_slot s x (record (slot_at s x) { colour = Gray; cyclic = (slot_at s x).count - 1 })) { marked = s.marked ++ x ∷ [] } ≡ one_off (touched_if false s x) x
touched_off s x l =
    let v : Slot = record (slot_at s x) { colour = Gray; cyclic = (slot_at s x).count } in
    let here : get_or (set s.slots x v) x absent ≡ v = get_or-set_same s.slots x v absent l in
    let to : List Slot → State = λ xs. record s { slots = xs; marked = s.marked ++ x ∷ [] } in
    sym (ap (λ (u : Slot). to (set (set s.slots x v) x (record u { cyclic = u.cyclic - 1 }))) here ∙ ap to (set-set s.slots x v (record v { cyclic = v.cyclic - 1 })))

-- a marked slot is made White where it is Gray, and no other is Gray
white_now : (v : Slot) → white_if true v ≡ whitened v
white_now v = go v.colour refl
  where
    go : (c : Colour) → v.colour ≡ c → white_if true v ≡ whitened v
    go Black e = rw e refl
    go Purple e = rw e refl
    go Gray e = rw e refl
    go White e = rw e refl
    go Orange e = rw e refl
    go Green e = rw e refl

stays : (v : Slot) → is_gray v.colour ≡ false → v ≡ whitened v
stays v e = rw e refl

pub all_white : (then now : State) → CanScan then → now ≡ record then { slots = now.slots } → length now.slots ≡ length then.slots → ((x : ℕ) → slot_at now x ≡ white_if (ltb 0 (in_counts.times x then.marked)) (slot_at then x)) → now ≡ all_whitened then
all_white then now c lists many slots =
    lists ∙ ap (λ (xs : List Slot). record then { slots = xs }) (all_of whitened then.slots now.slots many (λ x. slots x ∙ each x (ltb 0 (in_counts.times x then.marked)) refl))
  where
    each : (x : ℕ) (b : Bool) → ltb 0 (in_counts.times x then.marked) ≡ b → white_if b (slot_at then x) ≡ whitened (slot_at then x)
    each x true e = white_now (slot_at then x)
    each x false e = stays (slot_at then x) (false_from_ne_true (is_gray (slot_at then x).colour) (λ g. omega (arith, c.gray x g, ltb-false 0 (in_counts.times x then.marked) e)))

-- a marked slot is in range
pub marked_in_range : (s : State) → IsKept s → (i : ℕ) → i < length s.marked → get_or s.marked i 0 < length s.slots
marked_in_range s k i l = in_range_once (length s.slots) s.marked (get_or s.marked i 0) k.marked_once (times_at s.marked i l)

-- so is the first root
pub first_is : (x y : ℕ) → Some x ≡ Some y → x ≡ y
first_is x y h = cc

pub first_there : (s : State) (x : ℕ) (xs : List ℕ) → s.roots ≡ x ∷ xs → 0 < in_counts.times x s.roots
first_there s x xs e = rw e (omega (arith, times-cons x x xs, one-same x))

pub root_range : (s : State) → IsKept s → (rs : List ℕ) → s.roots ≡ rs → (x : ℕ) → Some x ≡ slice_get rs 0 → x < length (without_root rs s).slots
root_range s k [] e x h = cc
root_range s k (y ∷ ys) e x h = omega (arith, first_is x y h, first_root_in_range k y ys e, length-set s.slots y (record (slot_at s y) { buffered = false }))

-- a released root is not in the free list
pub root_unlisted : (s : State) → AreUnlisted s → (rs : List ℕ) → s.roots ≡ rs → (x : ℕ) → Some x ≡ slice_get rs 0 → (slot_at (without_root rs s) x).released ≡ true → in_counts.times x (without_root rs s).free ≡ 0
root_unlisted s c [] e x h r = cc
root_unlisted s c (y ∷ ys) e x h r =
    let here : 0 < in_counts.times x s.roots = rw (first_is x y h) (first_there s y ys e) in
    c x here (sym (field_kept (λ (v : Slot). v.released) s.slots y (record (slot_at s y) { buffered = false }) refl x) ∙ r)
