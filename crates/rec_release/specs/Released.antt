-- A whole release: what it exchanged, and what became of the counts and the free list.
use Rattle.std.specs.Prelude.{◌≡◌, ℕ, ◌+◌, ◌-◌, ◌<◌, ◌==◌, Bool, true, false, Option, None, Some, IfSome, List, [], ◌++◌, not, take, length, fold, filter, count_by}
use Rattle.rec_word.specs.Place.{places_from, places_of}
use Rattle.rec_word.specs.Word.{target_of, is_slot}
use Rattle.rec_counts.specs.Colour.{is_green}
use Rattle.rec_counts.specs.Counts.{State, slot_at}
use Rattle.rec_counts.specs.Lists.{one, times}
use Rattle.rec_word.specs.Load.{given}
use Rattle.rec_release.specs.declared.at.At.{At}
use Rattle.rec_release.specs.Release.{Machine, Work, IsReady, IsHeld, took_of, started_of}

-- the places of the slot at work that are still to be exchanged
abbrev places_left : ℕ → Option At → List ℕ
places_left fields None = []
places_left fields (Some a) = places_from fields a.slot a.field

-- the slot is the one at work
abbrev pub is_at : ℕ → Option At → Bool
is_at x None = false
is_at x (Some a) = x == a.slot

-- how many of the words lead to the slot
unfoldable pub leading : ℕ → (words : List ℕ) → ℕ
leading x words = count_by (λ word. is_slot x (target_of word)) words

abbrev pub place_due : Machine → List ℕ
place_due m = take 1 (places_left m.fields m.at)

-- the places that it exchanged for these words; where the work is done, none is exchanged
abbrev pub exchanged : Work → (words : List ℕ) → List ℕ
exchanged w words = given took_of (λ (v : Work) word. place_due v.machine) w words

-- the slots among these that have fields
abbrev pub with_fields : State → List ℕ → List ℕ
with_fields s slots = filter (λ x. not (is_green (slot_at s x).colour)) slots

-- From the counts `before`, a release came to `after`, with the field `at` due next. `words` came out of the places
-- `from`, in order, and `slots` were released, in order.
pub record Released (fields : ℕ) (before : State) (at : Option At) (after : State) (words from slots : List ℕ) : Type 0 where
  -- each field of each released slot that isn't Green is exchanged once, in order
  pub places : from ++ places_left fields at ≡ places_of fields (with_fields before slots)
  pub each : length words ≡ length from
  -- each reference that came out takes one off its target's count, and nothing else changes a count
  pub counts : (x : ℕ) → (slot_at after x).count ≡ (slot_at before x).count - leading x words
  -- the released slots are those which stood in the zeros, at first or later; each is released once, and has no count
  pub zeros : (more : List ℕ) × (slots ++ after.zeros ≡ before.zeros ++ more)
  pub released : (x : ℕ) → one (slot_at after x).released ≡ one (slot_at before x).released + times x slots
  pub none : (x : ℕ) → 0 < times x slots → (slot_at after x).count ≡ 0
  -- an emptied slot that is buffered is not put into the free list, every other one is, once
  pub waiting : (x : ℕ) → (slot_at after x).buffered ≡ true → times x after.free ≡ times x before.free
  pub free : (x : ℕ) → (slot_at after x).buffered ≡ false → times x after.free + one (is_at x at) ≡ times x before.free + times x slots
  -- no slot becomes Green, and each that was stays so
  pub green : (x : ℕ) → is_green (slot_at after x).colour ≡ is_green (slot_at before x).colour
  pub held : IfSome at (IsHeld after)
  pub ready : IsReady after

-- what a release of so many fields a slot made of the counts, while it took in these words as long as there was work
abbrev pub HasReleased : (fields : ℕ) (lowers : Bool) (before : State) (words : List ℕ) → Type 0
HasReleased fields lowers before words =
    let begun : Work = started_of (record { fields = fields; at = None; lowers = false }) lowers before in
    let places : List ℕ = exchanged begun words in
    (slots : List ℕ) × Released fields before (fold took_of begun words).machine.at (fold took_of begun words).counts (take (length places) words) places slots
