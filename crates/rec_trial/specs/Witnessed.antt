-- What a trial promises by the words of fields, whatever words it is given: that a set may be freed rests on it.
use Rattle.std.specs.Prelude.{◌≡◌, ℕ, ◌<◌, ◌≤◌, if◌then◌else◌, Some, List, [], ◌∷◌, length, IsNone}
use Rattle.std.specs.List.{range_with_len}
use Rattle.rec_word.specs.Word.{target_of}
use Rattle.rec_counts.specs.Counts.{State, slot_at}
use Rattle.rec_counts.specs.Lists.{times}
use Rattle.rec_word.specs.Load.{Load}
use Rattle.rec_trial.specs.Loaded.{Run, run_of}
use Rattle.rec_trial.specs.Rules.{IsReady, AllLeadToVisible}
use Rattle.rec_trial.specs.Still.{references}
use Rattle.rec_trial.specs.Tried.{is_of, loaded, members}
use Rattle.rec_trial.specs.Trial.{next_of}

-- the word that the field gave when it was loaded, 0 where it was not
abbrev pub word_at : List Load → (slot field : ℕ) → ℕ
word_at [] x g = 0
word_at (l ∷ loads) x g = if is_of x g l then l.word else word_at loads x g

-- how many fields of so many slots gave a word that leads to the slot
abbrev pub fields_leading : (fields slots : ℕ) → List Load → ℕ → ℕ
fields_leading fields slots loads x = references fields (word_at loads) (range_with_len 0 slots) x

-- when a trial is over
pub record IsWitnessed (fields : ℕ) (before : State) (r : Run) : Type 0 where
  -- a member has at most as many references as there are fields that marking found to lead to it
  pub enough : (x : ℕ) → 0 < times x (members r.work.counts) → (slot_at before x).count ≤ fields_leading fields (length before.slots) r.marking x
  -- where marking found that a field of a slot which is no member leads to a member, blackening found another word there
  pub replaced : (n g x : ℕ) → times n (members r.work.counts) ≡ 0 → 0 < times x (members r.work.counts) → target_of (word_at r.marking n g) ≡ Some x → (loaded n g r.blackening ≡ 1) × (target_of (word_at r.blackening n g) ≡ Some x → ⊥)

-- a trial on counts that are ready for it, which took in words that lead to no released slot and to no Green one
abbrev pub TrialIsWitnessed : (fields : ℕ) (before : State) (words : List ℕ) → Type 0
TrialIsWitnessed fields before words = 0 < fields → IsReady before → AllLeadToVisible before words → IsNone (next_of (run_of fields before words).work.machine) → IsWitnessed fields before (run_of fields before words)
