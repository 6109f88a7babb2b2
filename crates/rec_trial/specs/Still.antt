-- What a trial promises where two loads of a field always give one word. `word` tells the words of all fields, and the colours are
-- those that slots had when the trial began: no slot becomes Green meanwhile, and each that is stays so.
use Rattle.std.specs.Prelude.{◌≡◌, ℕ, ◌-◌, ◌<◌, false, Some, List, [], ◌∷◌, count_by, IsNone}
use Rattle.std.specs.List.{range_with_len, sum_by}
use Rattle.rec_word.specs.Word.{target_of, is_slot}
use Rattle.rec_counts.specs.declared.colour.Colour.TheVariants.{Purple}
use Rattle.rec_counts.specs.Colour.{is_green}
use Rattle.rec_counts.specs.Counts.{State, slot_at}
use Rattle.rec_counts.specs.Lists.{times}
use Rattle.rec_word.specs.Load.{Load}
use Rattle.rec_trial.specs.Loaded.{Run, run_of}
use Rattle.rec_trial.specs.Rules.{IsReady, AllLeadToVisible, visible}
use Rattle.rec_trial.specs.Tried.{IsOver, members}
use Rattle.rec_trial.specs.Trial.{next_of}

-- what a trial sees of these words
abbrev pub visible_words : State → (word : (slot field : ℕ) → ℕ) → (slot field : ℕ) → ℕ
visible_words s word slot field = visible s (word slot field)

-- each load gave the word of its field
abbrev pub AreStill : (word : (slot field : ℕ) → ℕ) → List Load → Type 0
AreStill word [] = Unit {0}
AreStill word (l ∷ loads) = (l.word ≡ word l.slot l.field) × AreStill word loads

-- a Purple root that is not released
pub record IsSeed (s : State) (x : ℕ) : Type 0 where
  pub root : 0 < times x s.roots
  pub purple : (slot_at s x).colour ≡ Purple
  pub unreleased : (slot_at s x).released ≡ false

-- on a path of fields from such a root, on which no slot is Green, the last one included
pub data IsReached (fields : ℕ) (word : (slot field : ℕ) → ℕ) (s : State) : ℕ → Type 0 where
  seed : {x : ℕ} → IsSeed s x → IsReached fields word s x
  along : {n x : ℕ} → IsReached fields word s n → (field : ℕ) → field < fields → target_of (word n field) ≡ Some x → is_green (slot_at s x).colour ≡ false → IsReached fields word s x

-- how many fields of marked slots lead to the slot
abbrev pub references : (fields : ℕ) (word : (slot field : ℕ) → ℕ) (marked : List ℕ) → ℕ → ℕ
references fields word marked x = sum_by (λ n. count_by (λ field. is_slot x (target_of (word n field))) (range_with_len 0 fields)) marked

-- the rest of a slot: its true count less those fields, not below zero
abbrev pub rest : (fields : ℕ) (word : (slot field : ℕ) → ℕ) (marked : List ℕ) (s : State) → ℕ → ℕ
rest fields word marked s x = (slot_at s x).count - references fields word marked x

-- on a path of fields from a marked slot with a rest, on which no slot is Green; that slot itself included
pub data IsHeld (fields : ℕ) (word : (slot field : ℕ) → ℕ) (marked : List ℕ) (s : State) : ℕ → Type 0 where
  rests : {x : ℕ} → 0 < times x marked → 0 < rest fields word marked s x → IsHeld fields word marked s x
  along : {n x : ℕ} → IsHeld fields word marked s n → (field : ℕ) → field < fields → target_of (word n field) ≡ Some x → is_green (slot_at s x).colour ≡ false → IsHeld fields word marked s x

-- the marked slots are exactly those on a path without Green slots from a Purple root that is not released, and the members exactly
-- the marked slots that no marked slot with a rest reaches by a path without Green slots
pub record IsExact (fields : ℕ) (word : (slot field : ℕ) → ℕ) (before : State) (r : Run) (marked : List ℕ) : Type 0 where
  pub marked_reached : (x : ℕ) → 0 < times x marked → IsReached fields word before x
  pub reached_marked : (x : ℕ) → IsReached fields word before x → 0 < times x marked
  pub members_unheld : (x : ℕ) → 0 < times x (members r.work.counts) → IsHeld fields word marked before x → ⊥
  pub unheld_members : (x : ℕ) → 0 < times x marked → (IsHeld fields word marked before x → ⊥) → 0 < times x (members r.work.counts)

-- a trial on counts that are ready for it, which took in words that lead to no released slot and to no Green one: what it sees of words
-- that do not change
abbrev pub TrialIsExact : (fields : ℕ) (word : (slot field : ℕ) → ℕ) (before : State) (words : List ℕ) → Type 0
TrialIsExact fields word before words =
    0 < fields → IsReady before → AllLeadToVisible before words → IsNone (next_of (run_of fields before words).work.machine) → AreStill (visible_words before word) (run_of fields before words).marking → AreStill (visible_words before word) (run_of fields before words).blackening →
    (marked : List ℕ) × IsOver fields before (run_of fields before words) marked × IsExact fields word before (run_of fields before words) marked
