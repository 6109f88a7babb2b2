-- A whole preparation: what it loaded, and what became of the cyclic counts.
use Rattle.std.specs.Prelude.{◌≡◌, ℕ, ◌+◌, ◌-◌, ◌<◌, ◌≤◌, ◌&&◌, Option, None, Some, List, [], ◌∷◌, ◌++◌, map, drop, length, fold, count_by, slice_index_or as item_at}
use Rattle.std.specs.List.{concat}
use Rattle.rec_word.specs.Place.{places_of}
use Rattle.rec_word.specs.declared.op.Op.{Op}
use Rattle.rec_word.specs.declared.op.Op.TheVariants.{LoadChild}
use Rattle.rec_counts.specs.Counts.{State, slot_at}
use Rattle.rec_counts.specs.Slot.{is_in}
use Rattle.rec_word.specs.Load.{Load, given, leads_to, place_loaded}
use Rattle.rec_word.specs.Walk as walks
use Rattle.rec_sigma.specs.declared.at.At.{At}
use Rattle.rec_sigma.specs.Prepare.{Work, took_of, started_of}

-- the places that are still to be loaded: of the set at work, and of the sets behind it
abbrev pub places_left : (fields : ℕ) → List (List ℕ) → Option At → List ℕ
places_left fields sets None = []
places_left fields sets (Some a) = walks.places_left fields (item_at sets a.set []) (Some a.member) ++ places_of fields (concat (drop (a.set + 1) sets))

-- how many of the sets were begun
abbrev pub sets_begun : List (List ℕ) → Option At → ℕ
sets_begun sets None = length sets
sets_begun sets (Some a) = a.set + 1

-- how many words were seen in fields of this set's members that lead to the slot
unfoldable pub seen : State → (number : ℕ) → (loads : List Load) → (x : ℕ) → ℕ
seen s number loads x = count_by (λ (l : Load). leads_to x l && is_in number (slot_at s l.slot).set) loads

-- the outside count of a member of this set: its true count, less the words seen in fields of the set's members that lead
-- to it, not below zero
abbrev pub outside : State → (number : ℕ) → (loads : List Load) → (x : ℕ) → ℕ
outside s number loads x = (slot_at s x).count - seen s number loads x

-- from s to t, of each slot no more changes than its cyclic count, and no list changes
pub record KeepsOthers (s t : State) : Type 0 where
  pub slots : (x : ℕ) → slot_at t x ≡ record (slot_at s x) { cyclic = (slot_at t x).cyclic }
  pub many : length t.slots ≡ length s.slots
  pub roots : t.roots ≡ s.roots
  pub sets : t.sets ≡ s.sets
  pub marked : t.marked ≡ s.marked
  pub work : t.work ≡ s.work
  pub zeros : t.zeros ≡ s.zeros
  pub free : t.free ≡ s.free

-- From the counts `before`, a preparation came to `after`. It loaded `loads`, in order; the places `left` are still to be
-- loaded, and the sets of a number below `begun` were begun.
pub record Prepared (fields : ℕ) (before : State) (begun : ℕ) (left : List ℕ) (after : State) (loads : List Load) : Type 0 where
  -- each field of each member of each set is loaded once, in order, and no other
  pub places : map (place_loaded fields) loads ++ left ≡ places_of fields (concat before.sets)
  -- the cyclic count of a member is its outside count
  pub members : (number x : ℕ) → number < begun → (slot_at before x).set ≡ Some number → (slot_at after x).cyclic ≡ outside before number loads x
  -- a member of a set that was not begun, and a slot in no set, has the cyclic count that it had
  pub later : (number x : ℕ) → begun ≤ number → (slot_at before x).set ≡ Some number → (slot_at after x).cyclic ≡ (slot_at before x).cyclic
  pub unset : (x : ℕ) → (slot_at before x).set ≡ None → (slot_at after x).cyclic ≡ (slot_at before x).cyclic
  -- nothing was loaded from the members of a set that was not begun
  pub unseen : (number x : ℕ) → begun ≤ number → seen before number loads x ≡ 0
  pub others : KeepsOthers before after

-- the same of a preparation with this field due
abbrev pub PreparedTo : (fields : ℕ) (before : State) (at : Option At) (after : State) (loads : List Load) → Type 0
PreparedTo fields before at after loads = Prepared fields before (sets_begun before.sets at) (places_left fields before.sets at) after loads

-- what a preparation loads with this word; nothing where the work is done
abbrev pub loaded_at : Option At → (word : ℕ) → List Load
loaded_at None word = []
loaded_at (Some a) word = record { slot = a.member.slot; field = a.member.field; word = word } ∷ []

-- what a preparation of so many fields a slot made of the counts, while it took in these words as long as there was work
abbrev pub HasPrepared : (fields : ℕ) (before : State) (words : List ℕ) → Type 0
HasPrepared fields before words =
    let begun : Work = started_of (record { fields = fields; at = None }) before in
    PreparedTo fields before (fold took_of begun words).machine.at (fold took_of begun words).counts (given took_of (λ (w : Work) word. loaded_at w.machine.at word) begun words)

-- what is named is the loading of a field, at a place of the heap
abbrev pub LoadsWithin : (places : ℕ) → Op → Type 0
LoadsWithin places op = (place : ℕ) × (op ≡ LoadChild place) × (place < places)
