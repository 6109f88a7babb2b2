-- A trial with all that it promises, said of the record of its loads: that is what the calls that begin it and go on with it tell.
use Rattle.std.specs.Prelude.{◌≡◌, ℕ, ◌<◌, ◌*◌, List, [], length, IsNone}
use Rattle.rec_counts.specs.Counts.{State}
use Rattle.rec_trial.specs.Loaded.{Run, run_of}
use Rattle.rec_trial.specs.Rules.{IsReady, AllLeadToVisible}
use Rattle.rec_trial.specs.Still.{AreStill, IsExact, visible_words}
use Rattle.rec_trial.specs.Tried.{IsCareful, IsOver}
use Rattle.rec_trial.specs.Trial.{Work, next_of}
use Rattle.rec_trial.specs.Witnessed.{IsWitnessed}

-- a trial that has loaded nothing yet
abbrev pub unloaded : Work → Run
unloaded w = record { work = w; marking = []; blackening = []; collecting = [] }

-- a trial that began on the counts `before` and took in these words, with the record of what it loaded
pub record IsTrial (fields : ℕ) (before : State) (words : List ℕ) (r : Run) : Type 0 where
  pub wide : 0 < fields
  pub ready : IsReady before
  pub named : AllLeadToVisible before words
  pub is : r ≡ run_of fields before words
  -- at every moment, whatever words it is given
  pub careful : IsCareful fields before (length words) r
  pub ends : 3 * (length before.slots * fields) < length words → IsNone (next_of r.work.machine)
  -- when it is over, whatever words it was given
  pub whole : IsNone (next_of r.work.machine) → (marked : List ℕ) × IsOver fields before r marked
  pub witnessed : IsNone (next_of r.work.machine) → IsWitnessed fields before r
  -- when it is over, and two loads of a field always gave one word: what the trial sees of it
  pub exact : (word : (slot field : ℕ) → ℕ) → IsNone (next_of r.work.machine) → AreStill (visible_words before word) r.marking → AreStill (visible_words before word) r.blackening → (marked : List ℕ) × IsOver fields before r marked × IsExact fields word before r marked
