-- What a batch names is touched, and what it doesn't name stays as it was.
use Rattle.std.proofs.Common.{◌≡◌, ◌↔◌, ℕ, ◌+◌, ◌<◌, ◌||◌, Bool, true, false, eqb, ltb, List, flat_map, refl, sym, ap, ◌∙◌, arith, inl, inr}
use Rattle.std.proofs.lemmas.Bool.{cases_lt, false≢true, lt-ltb, ltb-false}
use Rattle.std.proofs.lemmas.List.{get_or-set_same}
use Rattle.rec_log.specs.declared.contents.Contents.{Contents}
use Rattle.rec_counts.specs.declared.colour.Colour.{Colour}
use Rattle.rec_counts.specs.declared.colour.Colour.TheVariants.{Green, Orange}
use Rattle.rec_counts.specs.declared.slot.Slot.{Slot}
use Rattle.rec_counts.specs.Batched.{counted_slot}
use Rattle.rec_counts.specs.Colour.{in_use, is_green}
use Rattle.rec_counts.specs.Counts.{State, slot_at, decremented}
use Rattle.rec_counts.specs.Lists.{times}
use Rattle.rec_counts.specs.Slot.{absent, lessened, lessened_if, settled_if, stays}
use Rattle.rec_counts.specs.Touched.{greened_if, mark_of, settled_at}
use Rattle.rec_counts.proofs.Batching.{at_below, unnamed_at}
use Rattle.rec_counts.proofs.Decrementing.{same_slot}
use Rattle.rec_counts.proofs.Keeping.{unreleased_within}
use Rattle.rec_counts.specs.Batch.{batch, is_touched, names}
use Rattle.rec_counts.specs.Targets.{added, leaves, slots_in, taken, taken_targets}
use Rattle.rec_counts.proofs.Naming.{taken_is, times_slots}

in_use_touched : (c : Colour) → is_touched (in_use c) ≡ true
in_use_touched Green = refl
in_use_touched _ = refl

green_touched : (c : Colour) → is_green c ≡ true → is_touched c ≡ true
green_touched Green g = refl
green_touched _ g = absurd (false≢true g)

settled_touched : (r g n : Bool) (v : Slot) → r ≡ false → is_green v.colour ≡ g → is_touched (settled_if (r || g) n v).colour ≡ true
settled_touched true g n v e f = absurd (false≢true (sym e))
settled_touched false true n v e f = green_touched v.colour f
settled_touched false false true v e f = refl
settled_touched false false false v e f = refl

greened_released : (b : Bool) (v : Slot) → (greened_if b v).released ≡ v.released
greened_released true v = refl
greened_released false v = refl

-- a slot that was born a leaf so often, has so many references more, and as many were taken off
slot_touched : (born added taken : ℕ) (v : Slot) → v.released ≡ false → 0 < added + taken + born → is_touched (settled_at (mark_of (ltb 0 added) (ltb 0 taken)) (counted_slot born added taken v)).colour ≡ true
slot_touched born added taken v r some = go (ltb 0 added) (ltb 0 taken) refl refl
  where
    w : Slot
    w = counted_slot born added taken v

    go : (a t : Bool) → ltb 0 added ≡ a → ltb 0 taken ≡ t → is_touched (settled_at (mark_of (ltb 0 added) (ltb 0 taken)) w).colour ≡ true
    go true true e f = rw (e, f) (settled_touched w.released (is_green w.colour) (eqb w.count 0) w (greened_released (ltb 0 born) v ∙ r) refl)
    go false true e f = rw (e, f) (settled_touched w.released (is_green w.colour) (eqb w.count 0) w (greened_released (ltb 0 born) v ∙ r) refl)
    go true false e f = rw (e, f) (in_use_touched w.colour)
    go false false e f =
        let is : ltb 0 born ≡ true = lt-ltb 0 born (omega (arith, some, ltb-false 0 added e, ltb-false 0 taken f)) in
        rw (e, f) (ap (λ b. is_touched (greened_if b v).colour) is)

-- how often the older buffers name a slot
pub taken_times : (x : ℕ) (older : List Contents) → times x (slots_in (flat_map taken_targets older)) ≡ taken x older
taken_times x older = times_slots x (flat_map taken_targets older) ∙ taken_is x older

pub batch_touched : (s : State) (newer older : List Contents) (x : ℕ) → (slot_at s x).released ≡ false → 0 < names x newer older → is_touched (slot_at (batch s newer older) x).colour ≡ true
unfolding batch
batch_touched s newer older x r some =
    ap (λ (v : Slot). is_touched v.colour) (at_below s (λ y. leaves y newer) (λ y. added y newer) (slots_in (flat_map taken_targets older)) x (unreleased_within s x r))
    ∙ slot_touched (leaves x newer) (added x newer) (times x (slots_in (flat_map taken_targets older))) (slot_at s x) r (omega (arith, some, taken_times x older))

batch_same : (s : State) (newer older : List Contents) (x : ℕ) → (slot_at s x).released ≡ false → names x newer older ≡ 0 → slot_at (batch s newer older) x ≡ slot_at s x
unfolding batch
batch_same s newer older x r none =
    at_below s (λ y. leaves y newer) (λ y. added y newer) (slots_in (flat_map taken_targets older)) x (unreleased_within s x r)
    ∙ unnamed_at (leaves x newer) (added x newer) (times x (slots_in (flat_map taken_targets older))) (slot_at s x) (omega (arith, none)) (omega (arith, none)) (omega (arith, none, taken_times x older))

-- what is touched isn't Orange
pub touched_orange : (c : Colour) → is_touched c ≡ true → c ≡ Orange → ⊥
touched_orange c h o = false≢true (sym (ap is_touched o) ∙ h)

-- an unreleased slot is Orange after a batch exactly where it was so before and nothing of the batch names it
pub batch_orange : (s : State) (newer older : List Contents) (x : ℕ) → (slot_at s x).released ≡ false → ((slot_at (batch s newer older) x).colour ≡ Orange) ↔ (((slot_at s x).colour ≡ Orange) × (names x newer older ≡ 0))
batch_orange s newer older x r = (
  λ o. elim (cases_lt 0 (names x newer older)) [
    | inl l ↦ absurd (touched_orange (slot_at (batch s newer older) x).colour (batch_touched s newer older x r l) o)
    | inr none ↦ (ap (λ (v : Slot). v.colour) (sym (batch_same s newer older x r (omega (arith, none)))) ∙ o, omega (arith, none))
  ],
  λ q. ap (λ (v : Slot). v.colour) (batch_same s newer older x r q.1) ∙ q.0,
)

-- a decrement touches its slot, too
lessened_touched : (b l : Bool) (v : Slot) → stays v ≡ b → v.released ≡ false → is_touched (lessened_if b l v).colour ≡ true
lessened_touched true l v e r = green_touched v.colour (ap (λ b. b || is_green v.colour) (sym r) ∙ e)
lessened_touched false true v e r = refl
lessened_touched false false v e r = refl

pub decremented_touched : (s : State) (x : ℕ) → (slot_at s x).released ≡ false → is_touched (slot_at (decremented s x) x).colour ≡ true
decremented_touched s x r =
    let v : Slot = slot_at s x in
    ap (λ (w : Slot). is_touched w.colour) (same_slot s x x ∙ get_or-set_same s.slots x (lessened v) absent (unreleased_within s x r)) ∙ lessened_touched (stays v) (eqb v.count 1) v refl r
