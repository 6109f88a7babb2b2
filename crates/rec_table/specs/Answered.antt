-- Why a command was answered so, and whether its mutator left by it, said of the mutator's list.
use Rattle.std.specs.Prelude.{◌≡◌, ◌≢◌, ◌↔◌, ℕ, ◌+◌, ◌<◌, Bool, true, Option, None, Some, List, [], ◌∷◌, ◌++◌, length, map}
use Rattle.rec_model.specs.declared.answer.Answer.TheVariants as answers
use Rattle.rec_model.specs.declared.command.Cmd.{Cmd}
use Rattle.rec_model.specs.Asking.{allocation}
use Rattle.rec_model.specs.declared.told.Told.{Told}
use Rattle.rec_word.specs.Header.{header_word}
use Rattle.rec_mutator.specs.Causes.{HasCause, FindsLeaf, IsAwaited}
use Rattle.rec_mutator.specs.Private.{Private, limit_of}
use Rattle.rec_mutator.specs.Scans.{FailsScan, ops_along}
use Rattle.rec_mutator.specs.Step.{IsStill}
use Rattle.rec_mutator.specs.Took.{begun_of, nulls_of}
use Rattle.rec_mutator.specs.declared.work.Work.TheVariants as works
use Rattle.rec_world.specs.World.{epoch_after, is_leave_done}
use Rattle.rec_table.specs.Beats.{told as told_by}
use Rattle.rec_table.specs.declared.start.Start.{Start}
use Rattle.rec_table.specs.declared.views.Beat.{Beat}
use Rattle.rec_table.specs.declared.views.Beat.TheVariants.{Begins, Saw}

-- a work that began so, and the words that its steps found
abbrev pub worked : Start → (words : List ℕ) → List Beat
worked start words = Begins start ∷ map (λ word. Saw word) words

-- what they make of the mutator's record
abbrev record_after : Private → Start → (words : List ℕ) → Private
record_after p start words = told_by p (worked start words)

-- Every probe of an allocation failed, of a leaf or not: its first step found `before` in the freed word; then the header of each slot was
-- claimed, one after another, once round from slot `from` on, and each was found taken. These are all its steps but the last.
pub record FailsProbes (p : Private) (cmd : Cmd) (from before : ℕ) (words : List ℕ) : Type 0 where
  pub reg : ℕ
  pub label : ℕ
  pub leaf : Bool
  pub is : cmd ≡ allocation leaf reg label
  pub fails : FailsScan (header_word leaf label) p.slots from before (ops_along (begun_of p (works.Command cmd) from) words) words

-- The list grew by the command and the words that its steps found, and each refusal has its cause there.
pub record IsAnswered (p : Private) (cmd : Cmd) (log log' : List Beat) (q : Private) (told : Told) : Type 0 where
  -- the slot with which its scan began, if it made one
  pub from : ℕ
  pub words : List ℕ
  pub last : ℕ
  pub grows : log' ≡ log ++ worked (record { work = works.Command cmd; from = from }) (words ++ last ∷ [])
  -- it took no more steps than such a command takes at most
  pub few : length words < limit_of p.slots (works.Command cmd)
  -- by the record before the last step, and the word that this found
  pub cause : HasCause (record_after p (record { work = works.Command cmd; from = from }) words) q cmd last told.answer
  -- NoField: a write's first step looked at the header of an object that is there, with room in the log, and found a leaf's
  pub no_field : (told.answer ≡ answers.NoField) ↔ ((words ≡ []) × FindsLeaf (begun_of p (works.Command cmd) from) last cmd)
  -- NotYet: the first step of leaving found the own crossing word, by which the log that was handed over last is still to be collected
  pub not_yet : (told.answer ≡ answers.NotYet) ↔ ((words ≡ []) × IsAwaited (begun_of p (works.Command cmd) from) last cmd)
  -- Full: the last step found the freed word as the first one had, and it was even
  pub full : told.answer ≡ answers.Full → (before : ℕ) × FailsProbes p cmd from before words × IsStill before last
  -- Busy tells both words, where that is not so
  pub busy : (before after : ℕ) → told.answer ≡ answers.Busy before after → FailsProbes p cmd from before words × (after ≡ last) × (IsStill before last → ⊥)

-- The mutator has left just where that was the command, and it is done. Then it is in the next epoch and its registers are null; else it
-- is in its own epoch still.
pub record Leaves (p : Private) (cmd : Cmd) (told : Told) (q : Private) : Type 0 where
  pub left : q.left ≡ is_leave_done cmd told.answer
  pub epoch : q.epoch ≡ epoch_after cmd told.answer p.epoch
  pub registers : is_leave_done cmd told.answer ≡ true → q.registers ≡ nulls_of p

-- The list grew by a poll and the words that its steps found: the requested epoch, and, where the mutator isn't in it, those of two steps
-- by which it crosses into the next one.
pub record IsPolled (p : Private) (log log' : List Beat) (result : Option ℕ) : Type 0 where
  pub from : ℕ
  pub requested : ℕ
  pub crossing : List ℕ
  pub grows : log' ≡ log ++ worked (record { work = works.Poll; from = from }) (requested ∷ crossing)
  pub none : requested ≡ p.epoch → (crossing ≡ []) × (result ≡ None)
  pub some : requested ≢ p.epoch → (length crossing ≡ 2) × (result ≡ Some (p.epoch + 1))
