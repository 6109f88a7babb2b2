-- What a trial promises, whatever words it is given: facts of the counts and of what it loaded.
use Rattle.std.specs.Prelude.{◌≡◌, ℕ, ◌+◌, ◌*◌, ◌<◌, ◌≤◌, ◌==◌, Bool, false, if◌then◌else◌, Some, List, [], ◌++◌, length, count_by, IsNone, IsSome}
use Rattle.std.specs.List.{concat}
use Rattle.rec_counts.specs.Counts.{State, slot_at}
use Rattle.rec_counts.specs.Lists.{one, times}
use Rattle.rec_counts.specs.Colour.{is_green, is_black, is_gray, is_white, is_orange}
use Rattle.rec_word.specs.Load.{Load, leads_to}
use Rattle.rec_trial.specs.Loaded.{Run, run_of}
use Rattle.rec_trial.specs.Rules.{IsReady, AllLeadToVisible, released_among}
use Rattle.rec_trial.specs.Trial.{NamesPlace, next_of}

-- the load is of this field of this slot
abbrev pub is_of : (slot field : ℕ) → Load → Bool
is_of x g l = if x == l.slot then g == l.field else false

-- how often this field of this slot was loaded
unfoldable pub loaded : (slot field : ℕ) → List Load → ℕ
loaded x g loads = count_by (is_of x g) loads

-- how many of the words lead to the slot
unfoldable pub naming : ℕ → List Load → ℕ
naming x loads = count_by (λ l. leads_to x l) loads

-- how many words of the fields of n lead to x
unfoldable pub edges : (n x : ℕ) → List Load → ℕ
edges n x loads = count_by (λ l. if n == l.slot then leads_to x l else false) loads

-- the members of all sets
abbrev pub members : State → List ℕ
members s = concat s.sets

-- at every moment of a trial that began on the counts `before`, and took in so many words
pub record IsCareful (fields : ℕ) (before : State) (words : ℕ) (r : Run) : Type 0 where
  -- no true count changes, and nothing is released
  pub counts : (x : ℕ) → (slot_at r.work.counts x).count ≡ (slot_at before x).count
  pub released : (x : ℕ) → (slot_at r.work.counts x).released ≡ (slot_at before x).released
  pub slots : length r.work.counts.slots ≡ length before.slots
  pub zeros : r.work.counts.zeros ≡ before.zeros
  -- no slot becomes Green, and each that is stays so
  pub green : (x : ℕ) → is_green (slot_at r.work.counts x).colour ≡ is_green (slot_at before x).colour
  -- a root that was released goes to the free list as it leaves the root buffer
  pub free : r.work.counts.free ++ released_among before r.work.counts.roots ≡ before.free ++ released_among before before.roots
  -- marking loads each field of each slot at most once, blackening does, and collecting does
  pub marking_once : (x g : ℕ) → loaded x g r.marking ≤ 1
  pub blackening_once : (x g : ℕ) → loaded x g r.blackening ≤ 1
  pub collecting_once : (x g : ℕ) → loaded x g r.collecting ≤ 1
  -- so each of them loads at most as often as there are fields, and every word was one of a load while there was work
  pub marking_few : length r.marking ≤ length before.slots * fields
  pub blackening_few : length r.blackening ≤ length before.slots * fields
  pub collecting_few : length r.collecting ≤ length before.slots * fields
  pub turns : IsSome (next_of r.work.machine) → length r.marking + length r.blackening + length r.collecting ≡ words
  -- what comes next is a field of the heap
  pub place : NamesPlace (length before.slots) r.work.machine
  -- the sets are disjoint lists of unreleased slots, each slot once
  pub sets_once : (x : ℕ) → times x (members r.work.counts) ≤ 1
  pub sets_unreleased : (x : ℕ) → 0 < times x (members r.work.counts) → (slot_at before x).released ≡ false

-- when a trial is over in which these slots were marked
pub record IsOver (fields : ℕ) (before : State) (r : Run) (marked : List ℕ) : Type 0 where
  -- each marked slot is marked once, and none is released; each of its fields was loaded once in marking, and no other field
  pub marked_once : (x : ℕ) → times x marked ≤ 1
  pub marked_unreleased : (x : ℕ) → 0 < times x marked → (slot_at before x).released ≡ false
  pub marking : (x g : ℕ) → g < fields → loaded x g r.marking ≡ times x marked
  pub marking_fields : (x g : ℕ) → 0 < loaded x g r.marking → g < fields
  -- each marked slot is a member or Black, and members are Orange
  pub member_or_black : (x : ℕ) → 0 < times x marked → times x (members r.work.counts) + one (is_black (slot_at r.work.counts x).colour) ≡ 1
  pub members_marked : (x : ℕ) → times x (members r.work.counts) ≤ times x marked
  pub members_orange : (x : ℕ) → times x (members r.work.counts) ≤ one (is_orange (slot_at r.work.counts x).colour)
  -- a member is named by at least as many words that marking loaded as its true count
  pub enough : (x : ℕ) → 0 < times x (members r.work.counts) → (slot_at before x).count ≤ naming x r.marking
  -- each field of a Black marked slot was loaded in blackening, and none of any other; no such word leads to a member
  pub blackening : (x g : ℕ) → g < fields → loaded x g r.blackening + times x (members r.work.counts) ≡ times x marked
  pub blackening_fields : (x g : ℕ) → 0 < loaded x g r.blackening → g < fields
  pub unnamed : (x : ℕ) → 0 < naming x r.blackening → times x (members r.work.counts) ≡ 0
  -- each field of a member was loaded once in collecting, and no other; no such word leads to a member of a later set
  pub collecting : (x g : ℕ) → g < fields → loaded x g r.collecting ≡ times x (members r.work.counts)
  pub collecting_fields : (x g : ℕ) → 0 < loaded x g r.collecting → g < fields
  pub none_later : (n x i j : ℕ) → 0 < edges n x r.collecting → 0 < times x (members r.work.counts) → (slot_at r.work.counts n).set ≡ Some i → (slot_at r.work.counts x).set ≡ Some j → j ≤ i
  -- a slot that was not marked keeps its colour; no slot is Gray or White
  pub others : (x : ℕ) → times x marked ≡ 0 → (slot_at r.work.counts x).colour ≡ (slot_at before x).colour
  pub no_gray : (x : ℕ) → is_gray (slot_at r.work.counts x).colour ≡ false
  pub no_white : (x : ℕ) → is_white (slot_at r.work.counts x).colour ≡ false
  -- and nothing waits any more
  pub roots : r.work.counts.roots ≡ []
  pub no_marked : r.work.counts.marked ≡ []
  pub no_work : r.work.counts.work ≡ []

-- a trial on counts that are ready for it, which took in words that lead to no released slot and to no Green one
abbrev pub TrialIsCareful : (fields : ℕ) (before : State) (words : List ℕ) → Type 0
TrialIsCareful fields before words = 0 < fields → IsReady before → AllLeadToVisible before words → IsCareful fields before (length words) (run_of fields before words)

abbrev pub TrialIsWhole : (fields : ℕ) (before : State) (words : List ℕ) → Type 0
TrialIsWhole fields before words = 0 < fields → IsReady before → AllLeadToVisible before words → IsNone (next_of (run_of fields before words).work.machine) → (marked : List ℕ) × IsOver fields before (run_of fields before words) marked

-- after that many words it is over
abbrev pub TrialEnds : (fields : ℕ) (before : State) (words : List ℕ) → Type 0
TrialEnds fields before words = 0 < fields → IsReady before → AllLeadToVisible before words → 3 * (length before.slots * fields) < length words → IsNone (next_of (run_of fields before words).work.machine)
