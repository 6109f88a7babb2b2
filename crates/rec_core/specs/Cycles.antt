-- What is known of the sets of the cycle buffer while mutators run, from one phase of a collection to the next.
use Rattle.std.specs.Prelude.{◌≡◌, ℕ, ◌+◌, ◌-◌, ◌/◌, ◌%◌, ◌<◌, ◌≤◌, ◌==◌, nat_lt, if◌then◌else◌, Bool, true, false, Some, List, [], ◌∷◌, All, length}
use Rattle.std.specs.List.{concat, sum_by}
use Rattle.rec_model.specs.Sums.{one_if_same, sum_at}
use Rattle.rec_model.specs.Pending.{node_of, Pending}
use Rattle.rec_model.specs.References.{closed_at}
use Rattle.rec_model.specs.Moves.{puts_in}
use Rattle.rec_model.specs.Sets.{HasLoaded, IsMarked, IsTesting, seen_in}
use Rattle.rec_counts.specs.declared.colour.Colour.TheVariants.{Orange}
use Rattle.rec_counts.specs.Colour.{is_green}
use Rattle.rec_counts.specs.Counts.{State, slot_at}
use Rattle.rec_counts.specs.Lists.{times}
use Rattle.rec_counts.specs.Slot.{is_in}
use Rattle.rec_word.specs.Load.{Load, place_loaded}
use Rattle.rec_trial.specs.Loaded.{Run}
use Rattle.rec_trial.specs.Tried.{loaded}
use Rattle.rec_trial.specs.Witnessed.{word_at}

-- the node is a member of a set
abbrev pub is_member : State → (node : ℕ) → Bool
is_member s node = nat_lt 0 (times (node - 1) (concat s.sets))

-- the node is a member of the set of this number
abbrev pub is_member_of : State → (number node : ℕ) → Bool
is_member_of s number node = is_in number (slot_at s (node - 1)).set

-- the word that a trial loaded from the field at this place, 0 where it loaded none
abbrev pub word_loaded : (fields : ℕ) → List Load → (place : ℕ) → ℕ
word_loaded fields loads place = word_at loads (place / fields) (place % fields)

-- the word that preparation loaded from the field at this place, 0 where it loaded none
abbrev pub word_seen : (fields : ℕ) → List Load → (place : ℕ) → ℕ
word_seen fields [] place = 0
word_seen fields (l ∷ loads) place = if place == place_loaded fields l then l.word else word_seen fields loads place

-- each of these loads is of a field that a slot has
abbrev pub AreFields : (fields : ℕ) → List Load → Type 0
AreFields fields loads = All (λ (l : Load). l.field < fields) loads

-- A trial is at work. It sees a word that leads to a Green slot as null. Each word that marking saw is a reference of the next batch's epoch. Where blackening loaded a field that
-- had another target by then, the word that marking loaded there was replaced.
pub record TrialStands (w : Pending) (r : Run) : Type 0 where
  pub marks : HasLoaded w (word_loaded w.fields r.marking)
  pub blacks : (place node : ℕ) → place < length w.words → 0 < node → 0 < loaded (place / w.fields) (place % w.fields) r.blackening
      → one_if_same node (node_of (word_loaded w.fields r.marking place)) ≤ closed_at w (w.applied + 1) place node + one_if_same node (node_of (word_loaded w.fields r.blackening place))
  -- no word that marking saw leads to a Green slot
  pub unmarked : (place node : ℕ) → 0 < node → node_of (word_loaded w.fields r.marking place) ≡ node → is_green (slot_at r.work.counts (node - 1)).colour ≡ false

-- Sets are prepared, and these fields were loaded for it: the trial's members are what a trial leaves that marked with such loads, and
-- each word that was loaded for the preparation is a reference of the next batch's epoch.
pub record SetsStand (w : Pending) (s : State) (loads : List Load) : Type 0 where
  pub marking : List Load
  pub marked : IsMarked w (is_member s) (word_loaded w.fields marking)
  pub loaded : HasLoaded w (word_seen w.fields loads)

-- Sets wait for the next batch. Each word that preparation saw is a reference of that batch's epoch; and the cyclic count of a member is
-- its outside count: its true count, less the words seen in fields of its own set's members that lead to it.
pub record SetsWait (w : Pending) (s : State) : Type 0 where
  pub marking : List Load
  pub marked : IsMarked w (is_member s) (word_loaded w.fields marking)
  pub loads : List Load
  pub loaded : HasLoaded w (word_seen w.fields loads)
  pub counted : (number x : ℕ) → (slot_at s x).set ≡ Some number
      → (slot_at s x).cyclic ≡ (slot_at s x).count - sum_at (seen_in w.fields (is_member_of s number) (word_seen w.fields loads) (x + 1)) w.words

-- Sets are tested, after the batch that made an earlier state of what was pending before it. So it is still of each member that
-- is Orange; and no write of the batch's epoch put a word that leads to one.
pub record SetsTest (w : Pending) (s : State) : Type 0 where
  pub before : Pending
  pub member : ℕ → Bool
  pub testing : IsTesting w before member
  pub among : (x : ℕ) → 0 < times x (concat s.sets) → member (x + 1) ≡ true
  pub loads : List Load
  pub loaded : HasLoaded before (word_seen w.fields loads)
  pub counted : (number x : ℕ) → (slot_at s x).set ≡ Some number → (slot_at s x).colour ≡ Orange → (slot_at s x).released ≡ false
      → (slot_at s x).cyclic ≡ (slot_at s x).count - sum_at (seen_in w.fields (is_member_of s number) (word_seen w.fields loads) (x + 1)) w.words
  pub unput : (x : ℕ) → (slot_at s x).colour ≡ Orange → sum_by (puts_in (before.applied + 1) (x + 1)) before.writes ≡ 0
