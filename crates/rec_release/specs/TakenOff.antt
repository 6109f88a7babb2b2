-- What is taken off a count, and what is known of the orange slots meanwhile.
use Rattle.std.specs.Prelude.{◌≡◌, ◌≢◌, ℕ, ◌<◌, Bool, true, false, Option, None, Some, List, length}
use Rattle.std.specs.List.{concat}
use Rattle.rec_counts.specs.declared.colour.Colour.{Colour}
use Rattle.rec_counts.specs.declared.colour.Colour.TheVariants.{Orange}
use Rattle.rec_counts.specs.Counts.{State, slot_at, with_slot, decremented}
use Rattle.rec_counts.specs.Lists.{times}
use Rattle.rec_counts.specs.Rest.{AllZeros}
use Rattle.rec_counts.specs.Slot.{lowered}
use Rattle.rec_counts.specs.Colour.{is_orange}

-- a target of this colour is lowered, where orange ones are
abbrev pub is_lowered : (lowers : Bool) → Colour → Bool
is_lowered true colour = is_orange colour
is_lowered false colour = false

abbrev pub down_if : (lowers : Bool) → State → ℕ → State
down_if true s x = with_slot s x (lowered (slot_at s x))
down_if false s x = decremented s x

-- the reference that came out is counted no more: where orange targets are lowered, one is lowered, and any other is
-- decremented; null counts for nothing
abbrev pub taken_off : (lowers : Bool) → State → Option ℕ → State
taken_off lowers s None = s
taken_off lowers s (Some x) = down_if (is_lowered lowers (slot_at s x).colour) s x

-- each slot that has no count and is not released stands in the zeros, unless it is Orange
abbrev pub AllZerosButOrange : State → Type 0
AllZerosButOrange s = (x : ℕ) → (slot_at s x).released ≡ false → (slot_at s x).count ≡ 0 → (slot_at s x).colour ≢ Orange → 0 < times x s.zeros

-- the slot is a member of a set, and neither in the zeros nor released
pub record IsMember (s : State) (x : ℕ) : Type 0 where
  pub member : 0 < times x (concat s.sets)
  pub no_zero : times x s.zeros ≡ 0
  pub unreleased : (slot_at s x).released ≡ false

-- the orange slots are apart from the zeros and from what is released: each is a member of a set
abbrev pub IsApart : State → Type 0
IsApart s = (x : ℕ) → (slot_at s x).colour ≡ Orange → IsMember s x

-- the orange slots stay Orange, but for these, which do not; and no other slot is Orange
pub record KeepsOrange (gone : List ℕ) (s t : State) : Type 0 where
  pub kept : (x : ℕ) → times x gone ≡ 0 → (slot_at s x).colour ≡ Orange → (slot_at t x).colour ≡ Orange
  pub before : (x : ℕ) → (slot_at t x).colour ≡ Orange → (times x gone ≡ 0) × ((slot_at s x).colour ≡ Orange)

-- What each move of a release or of a freeing keeps. One of a machine that lowers leaves the orange slots as they are,
-- and one of a machine that doesn't leaves all zeros in the zeros.
pub record Keeps (lowers : Bool) (s t : State) : Type 0 where
  pub slots : length t.slots ≡ length s.slots
  pub sets : t.sets ≡ s.sets
  pub all_zeros : lowers ≡ false → AllZeros s → AllZeros t
  pub all_but_orange : AllZerosButOrange s → AllZerosButOrange t
  pub apart : IsApart s → IsApart t
  pub before : (x : ℕ) → (slot_at t x).colour ≡ Orange → (slot_at s x).colour ≡ Orange
  pub kept : lowers ≡ true → (x : ℕ) → (slot_at s x).colour ≡ Orange → (slot_at t x).colour ≡ Orange
