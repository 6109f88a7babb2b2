-- What becomes of the members of a set that was refused.
use Rattle.std.specs.Prelude.{◌≡◌, ℕ, ◌<◌, ◌==◌, Bool, true, false, Option, List, [], ◌++◌, filter, length, slice_get}
use Rattle.rec_word.specs.Word.{is_slot}
use Rattle.rec_counts.specs.Colour.{in_use}
use Rattle.rec_counts.specs.declared.colour.Colour.{Colour}
use Rattle.rec_counts.specs.declared.colour.Colour.TheVariants.{Purple, Orange}
use Rattle.rec_counts.specs.declared.slot.Slot.{Slot}
use Rattle.rec_counts.specs.Counts.{State, slot_at}
use Rattle.rec_counts.specs.Groups.{last_set, earlier_sets}
use Rattle.rec_counts.specs.Lists.{times}
use Rattle.rec_counts.specs.Slot.{unbuffered}
use Rattle.rec_sigma.specs.declared.fate.Fate.{Fate}
use Rattle.rec_sigma.specs.declared.fate.Fate.TheVariants.{Free, Zero, Root, Plain}

-- a purple member is a root, and so is the first member where it is orange
abbrev pub is_root : (first : Bool) → Colour → Bool
is_root first Purple = true
is_root first Orange = first
is_root first _ = false

abbrev pub fate_if : (released none root : Bool) → Fate
fate_if true none root = Free
fate_if false true root = Zero
fate_if false false true = Root
fate_if false false false = Plain

-- where a member belongs, which is (or is not) the first of its set
abbrev pub fate_of : (first : Bool) → Slot → Fate
fate_of first v = fate_if v.released (v.count == 0) (is_root first v.colour)

-- where this member belongs
abbrev pub fate_at : State → (first : Option ℕ) → ℕ → Fate
fate_at s first x = fate_of (is_slot x first) (slot_at s x)

-- a released member keeps its colour; a root is Purple and buffered; any other member is Black, or stays Green
abbrev pub coloured : Fate → Slot → Slot
coloured Free v = v
coloured Zero v = record v { colour = in_use v.colour }
coloured Root v = record v { colour = Purple; buffered = true }
coloured Plain v = record v { colour = in_use v.colour }

-- a member leaves its set, and is then as its fate wants
abbrev pub refurbished : Fate → Slot → Slot
refurbished fate v = coloured fate (unbuffered v)

abbrev pub is_free : Fate → Bool
is_free Free = true
is_free _ = false

abbrev pub is_zero : Fate → Bool
is_zero Zero = true
is_zero _ = false

abbrev pub is_rooted : Fate → Bool
is_rooted Root = true
is_rooted _ = false

-- the last set can be refurbished: the work list is empty; a released member is not in the free list yet, nor is another
-- member without a count in the zeros
pub record IsRefusable (s : State) : Type 0 where
  pub some : 0 < length s.sets
  pub work : s.work ≡ []
  pub free : (x : ℕ) → 0 < times x (last_set s.sets) → (slot_at s x).released ≡ true → times x s.free ≡ 0
  pub zeros : (x : ℕ) → 0 < times x (last_set s.sets) → (slot_at s x).released ≡ false → (slot_at s x).count ≡ 0 → times x s.zeros ≡ 0

-- From the counts `before`, the last set was refurbished. `members` were its members, in order, and `first` the first of
-- them.
pub record Refurbished (before : State) (members : List ℕ) (first : Option ℕ) (after : State) : Type 0 where
  -- the released members are appended to the free list, those without a count to the zeros, the roots to the root buffer,
  -- all in the order of the set
  pub free : after.free ≡ before.free ++ filter (λ x. is_free (fate_at before first x)) members
  pub zeros : after.zeros ≡ before.zeros ++ filter (λ x. is_zero (fate_at before first x)) members
  pub roots : after.roots ≡ before.roots ++ filter (λ x. is_rooted (fate_at before first x)) members
  -- what is kept of a member depends on where it belongs, and of any other slot it stays
  pub inside : (x : ℕ) → 0 < times x members → slot_at after x ≡ refurbished (fate_at before first x) (slot_at before x)
  pub others : (x : ℕ) → times x members ≡ 0 → slot_at after x ≡ slot_at before x
  pub many : length after.slots ≡ length before.slots
  -- the set is gone, and nothing else changes
  pub sets : after.sets ≡ earlier_sets before.sets
  pub marked : after.marked ≡ before.marked
  pub work : after.work ≡ before.work

-- the same of the last set
abbrev pub LastRefurbished : (before after : State) → Type 0
LastRefurbished before after = Refurbished before (last_set before.sets) (slice_get (last_set before.sets) 0) after

-- the free list has released slots alone
abbrev pub AreReleased : State → Type 0
AreReleased s = (x : ℕ) → 0 < times x s.free → (slot_at s x).released ≡ true
