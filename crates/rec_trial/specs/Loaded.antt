-- A trial with what it loaded: the record that proofs keep of it.
use Rattle.std.specs.Prelude.{◌≡◌, ℕ, ◌+◌, ◌<◌, false, List, [], ◌∷◌, fold, IsSome}
use Rattle.rec_word.specs.Word.{target_of}
use Rattle.rec_counts.specs.Counts.{State, IsKept}
use Rattle.rec_word.specs.Load.{Load}
use Rattle.rec_trial.specs.declared.phase.Phase.{Phase}
use Rattle.rec_trial.specs.declared.phase.Phase.TheVariants.{Idle, Marking, Scanning, Collecting}
use Rattle.rec_trial.specs.Rules.{IsReady, LeadsToUnreleased, LeadsToVisible, AllLeadToVisible, visible}
use Rattle.rec_trial.specs.Trial.{Machine, Work, next_of, took_of, started_of, opened_of, advanced, learnt_at, is_due, moved_at}

-- a trial, with what marking loaded, what blackening loaded and what collecting loaded, the last load first
pub record Run : Type 0 where
  pub work : Work
  pub marking : List Load
  pub blackening : List Load
  pub collecting : List Load

-- the field that was due, with its word
abbrev pub load_of : Machine → (word : ℕ) → Load
load_of m word = record { slot = m.slot; field = m.field; word = word }

abbrev pub noted_at : Phase → Run → (word : ℕ) → Run
noted_at Idle r word = r
noted_at Marking r word = record r { work = took_of r.work word; marking = load_of r.work.machine word ∷ r.marking }
noted_at Scanning r word = record r { work = took_of r.work word; blackening = load_of r.work.machine word ∷ r.blackening }
noted_at Collecting r word = record r { work = took_of r.work word; collecting = load_of r.work.machine word ∷ r.collecting }

-- one word more; where the trial is over, it is not taken in
abbrev pub noted : Run → (word : ℕ) → Run
noted r word = noted_at r.work.machine.phase r word

-- a trial that has begun on these counts
abbrev pub begun : (fields : ℕ) → State → Run
begun fields before = record { work = started_of fields before; marking = []; blackening = []; collecting = [] }

-- a trial after it took in these words, one after another
unfoldable pub run_of : (fields : ℕ) (before : State) (words : List ℕ) → Run
run_of fields before words = fold noted (begun fields before) words

-- a trial came to this: it began on counts that were ready for it, and took in words that led to no released slot and to no Green one
pub record IsAtWork (m : Machine) (s : State) : Type 0 where
  pub wide : 0 < m.fields
  pub before : State
  pub words : List ℕ
  pub kept : IsKept before
  pub ready : IsReady before
  pub named : AllLeadToVisible before words
  pub is : ◌≡◌ {A = Work} (record { machine = m; counts = s }) (run_of m.fields before words).work

-- a trial goes on without a load: it is about to begin, or has just learnt a word
pub data GoesOn : Machine → State → Type 0 where
  begins : {fields : ℕ} {s : State} → 0 < fields → IsKept s → IsReady s → GoesOn (opened_of fields) s
  learns : {m : Machine} {s : State} → IsAtWork m s → IsSome (next_of m) → (word : ℕ) → LeadsToVisible s word → GoesOn (advanced m) (learnt_at m.phase s (target_of word))

-- From the first work a trial took in so many words, each of which led to no released slot, and came to this one.
pub data Ran (first : Work) : ℕ → Work → Type 0 where
  none : Ran first 0 first
  more : (n : ℕ) (w : Work) (word : ℕ) → Ran first n w → IsSome (next_of w.machine) → LeadsToUnreleased w.counts word → Ran first (n + 1) (took_of w (visible w.counts word))

-- From the first work a trial made so many moves, each where no load was due, and came to this one.
pub data HasMoved (first : Work) : ℕ → Work → Type 0 where
  none : HasMoved first 0 first
  more : (n : ℕ) (w : Work) → HasMoved first n w → is_due w ≡ false → HasMoved first (n + 1) (moved_at w.machine.phase w)
