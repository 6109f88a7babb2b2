-- What a step does about the trial of its collection, read off the rule by which it was made; and steps of which none makes a trial.
use Rattle.std.specs.Prelude.{◌≢◌, ℕ, ◌+◌, Option}
use Rattle.rec_word.specs.declared.op.Op.{Op}
use Rattle.rec_log.specs.declared.contents.Contents.{Contents}
use Rattle.rec_collector.specs.Private.{Private}
use Rattle.rec_collector.specs.Step.{ClearsOn, Step}
use Rattle.rec_collector.specs.Testing.{Begun}
use Rattle.rec_collector.specs.declared.phase.Phase.{Phase}
use Rattle.rec_collector.specs.declared.phase.Phase.TheVariants.{Trying, Preparing, Opening, Sweeping, Closing}
use Rattle.rec_collector.specs.declared.turn.Turn.{Turn}

-- it makes the trial, postpones it, or neither
pub data Does : Type 0 where
  makes : Does
  postpones : Does
  neither : Does

-- once the last set was tested, the trial is made or postponed
abbrev pub trial_among : {p q : Private} {turn : Turn} {b : Begun} → ClearsOn p q turn b → Does
trial_among (ClearsOn.works phase begun on) = Does.neither
trial_among (ClearsOn.tests c none some test on) = trial_among on
trial_among (ClearsOn.tries none empty due on) = Does.makes
trial_among (ClearsOn.waits none empty off on) = Does.postpones

-- by the rule of a step
abbrev pub trial_in : {p q : Private} {word : ℕ} {box : Contents} {op : Option Op} {turn : Turn} → Step p word box op q turn → Does
trial_in (Step.request_alone idle last is alone applies) = trial_among applies
trial_in (Step.cross_for_last t looking crosses is left applies) = trial_among applies
trial_in (Step.apply t returning is left applies) = trial_among applies
trial_in (Step.release m releasing is clears) = trial_among clears
trial_in (Step.freeing m freeing is clears) = trial_among clears
trial_in _ = Does.neither

-- how many trials in a row were postponed behind a step, of so many before it
abbrev pub postponed_behind : Does → ℕ → ℕ
postponed_behind Does.makes n = 0
postponed_behind Does.postpones n = n + 1
postponed_behind Does.neither n = n

-- whether the trial of the collection under way was made or postponed
abbrev pub decided_in : Phase → ℕ
decided_in (Trying trial) = 1
decided_in (Preparing prep) = 1
decided_in Opening = 1
decided_in (Sweeping due swept) = 1
decided_in (Closing swept) = 1
decided_in _ = 0

-- the collections whose trial was made or postponed since opening: those completed, and the one under way where its was
abbrev pub decided : Private → ℕ
decided p = p.collections + decided_in p.phase

-- a step that makes a trial or postpones it decides on one
abbrev pub decides : Does → ℕ
decides Does.makes = 1
decides Does.postpones = 1
decides Does.neither = 0

-- Steps from this machine on: none of them makes a trial, and so many postpone one.
pub data Untried (p : Private) : ℕ → Private → Type 0 where
  none : Untried p 0 p
  more : {n : ℕ} {q r : Private} {word : ℕ} {box : Contents} {op : Option Op} {turn : Turn}
      → Untried p n q → (s : Step q word box op r turn) → trial_in s ≢ Does.makes → Untried p (postponed_behind (trial_in s) n) r
