-- What a whole collection finds, and what its sets come to, where nothing but the collector changes words: no mutator runs a
-- command meanwhile.
use Rattle.std.specs.Prelude.{◌≡◌, ℕ, ◌+◌, ◌/◌, ◌<◌, ◌≤◌, true, false, not, None, Some, All, List, length, filter, slice_index_or as item_at}
use Rattle.std.specs.List.{range_with_len}
use Rattle.rec_word.specs.Place.{place_of}
use Rattle.rec_word.specs.Word.{target_of, is_slot}
use Rattle.rec_model.specs.Sums.{only_if, sum_at}
use Rattle.rec_counts.specs.declared.colour.Colour.TheVariants.{Orange}
use Rattle.rec_counts.specs.Colour.{is_green}
use Rattle.rec_counts.specs.Counts.{State, slot_at}
use Rattle.rec_counts.specs.Lists.{one, times}
use Rattle.rec_counts.specs.Slot.{is_in, stays}
use Rattle.rec_trial.specs.Still.{IsSeed, references}
use Rattle.rec_trial.specs.Tried.{members}
use Rattle.rec_word.specs.Load.{Load, place_loaded}

-- the slots that are neither released nor Green
abbrev pub offered_slots : State → List ℕ
offered_slots s = filter (λ n. not (stays (slot_at s n))) (range_with_len 0 (length s.slots))

-- Each slot that is neither released nor Green is a seed of the trial, and its count is the number of fields of such slots that lead to
-- it, and how often it is held besides. What is held is not released. No field of a Green slot leads anywhere.
pub record IsOffered (fields : ℕ) (word : (slot field : ℕ) → ℕ) (holds : ℕ → ℕ) (s : State) : Type 0 where
  pub seeds : (x : ℕ) → stays (slot_at s x) ≡ false → IsSeed s x
  pub counted : (x : ℕ) → stays (slot_at s x) ≡ false → (slot_at s x).count ≡ references fields word (offered_slots s) x + holds x
  pub held : (x : ℕ) → 0 < holds x → (slot_at s x).released ≡ false
  pub other : (n field x : ℕ) → field < fields → target_of (word n field) ≡ Some x → is_green (slot_at s n).colour ≡ false

-- on a path of fields from a slot that is held
pub data IsReachable (fields : ℕ) (word : (slot field : ℕ) → ℕ) (holds : ℕ → ℕ) : ℕ → Type 0 where
  held : {x : ℕ} → 0 < holds x → IsReachable fields word holds x
  along : {n x : ℕ} → IsReachable fields word holds n → (field : ℕ) → field < fields → target_of (word n field) ≡ Some x → IsReachable fields word holds x

-- neither released nor Green, and on no such path
pub record IsGarbage (fields : ℕ) (word : (slot field : ℕ) → ℕ) (holds : ℕ → ℕ) (s : State) (x : ℕ) : Type 0 where
  pub unreleased : (slot_at s x).released ≡ false
  pub other : is_green (slot_at s x).colour ≡ false
  pub unreached : IsReachable fields word holds x → ⊥

-- the members of the sets are exactly the garbage that there was
pub record FindsGarbage (fields : ℕ) (word : (slot field : ℕ) → ℕ) (holds : ℕ → ℕ) (before after : State) : Type 0 where
  pub only : (x : ℕ) → 0 < times x (members after) → IsGarbage fields word holds before x
  pub all : (x : ℕ) → IsGarbage fields word holds before x → 0 < times x (members after)

-- a field of a member leads to members of its own set and of earlier ones
abbrev pub LeadsToEarlier : (fields : ℕ) (word : (slot field : ℕ) → ℕ) → State → Type 0
LeadsToEarlier fields word s =
    (n field x i j : ℕ) → field < fields → 0 < times n (members s) → 0 < times x (members s) → (slot_at s n).set ≡ Some i → (slot_at s x).set ≡ Some j → target_of (word n field) ≡ Some x → j ≤ i

-- of the slots that are not released, members alone lead to members
abbrev pub LeadsFromMembers : (fields : ℕ) (word : (slot field : ℕ) → ℕ) → State → Type 0
LeadsFromMembers fields word s =
    (n field x : ℕ) → field < fields → (slot_at s n).released ≡ false → target_of (word n field) ≡ Some x → 0 < times x (members s) → 0 < times n (members s)

-- The same of a heap whose words stand in one list: the word in a field of a slot,
abbrev pub word_in : (fields : ℕ) (words : List ℕ) → (slot field : ℕ) → ℕ
word_in fields words slot field = item_at words (place_of slot field fields) 0

-- counted where the word leads to the slot,
abbrev pub leading : (x word : ℕ) → ℕ
leading x word = one (is_slot x (target_of word))

-- how many fields lead to the slot,
abbrev pub heap_sum : (words : List ℕ) (x : ℕ) → ℕ
heap_sum words x = sum_at (λ place word. leading x word) words

-- counted where the word leads to the slot, and the slot that has the field is not in the set of this number,
abbrev pub leading_outside : (fields : ℕ) → State → (number x place word : ℕ) → ℕ
leading_outside fields s number x place word = only_if (not (is_in number (slot_at s (place / fields)).set)) (leading x word)

-- and how many fields of slots that are not in this set lead to the slot.
abbrev pub outside_sum : (words : List ℕ) (fields : ℕ) → State → (number x : ℕ) → ℕ
outside_sum words fields s number x = sum_at (leading_outside fields s number x) words

-- No field of a released slot leads anywhere, but those at these places, which are still to be exchanged.
abbrev pub AreEmptied : (fields : ℕ) (words left : List ℕ) → State → Type 0
AreEmptied fields words left s =
    (place : ℕ) → place < length words → (slot_at s (place / fields)).released ≡ true → times place left ≡ 0 → target_of (item_at words place 0) ≡ None

-- a preparation loaded a field that a slot has, and found the word that stands there
pub record IsLoadOf (fields : ℕ) (words : List ℕ) (l : Load) : Type 0 where
  pub field : l.field < fields
  pub word : l.word ≡ item_at words (place_loaded fields l) 0

abbrev pub AreLoadsOf : (fields : ℕ) (words : List ℕ) → List Load → Type 0
AreLoadsOf fields words loads = All (IsLoadOf fields words) loads

-- Members of sets are Orange, and not released. A released slot leads nowhere, but by the fields at these places. A member leads
-- to members of its own set and of earlier ones, and what is neither released nor a member leads to no member.
pub record LeadBack (fields : ℕ) (words left : List ℕ) (s : State) : Type 0 where
  pub orange : (x i : ℕ) → (slot_at s x).set ≡ Some i → (slot_at s x).colour ≡ Orange
  pub unreleased : (x i : ℕ) → (slot_at s x).set ≡ Some i → (slot_at s x).released ≡ false
  pub emptied : AreEmptied fields words left s
  pub earlier : (place x i j : ℕ) → place < length words → (slot_at s (place / fields)).set ≡ Some i → (slot_at s x).set ≡ Some j → target_of (item_at words place 0) ≡ Some x → j ≤ i
  pub members : (place x j : ℕ) → place < length words → (slot_at s (place / fields)).released ≡ false → (slot_at s (place / fields)).set ≡ None → (slot_at s x).set ≡ Some j → target_of (item_at words place 0) ≡ Some x → ⊥

-- And the cyclic count of a member is the number of fields outside its set that lead to it. So nothing holds a set but what is
-- released, with fields still to be exchanged, and sets that are behind it.
pub record AreUnheld (fields : ℕ) (words left : List ℕ) (s : State) : Type 0 where
  pub back : LeadBack fields words left s
  pub cyclic : (x i : ℕ) → (slot_at s x).set ≡ Some i → (slot_at s x).cyclic ≡ outside_sum words fields s i x
