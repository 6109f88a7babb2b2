-- What every world is, and what a command and a poll leave of it.
use Rattle.std.specs.Prelude.{◌≡◌, ◌≢◌, ◌↔◌, ◌==◌, ℕ, ◌+◌, ◌%◌, ◌^◌, ◌<◌, ◌≤◌, if◌then◌else◌, Bool, false, true, Option, None, Some, IfSome, All, length, slice_index_or}
use Rattle.rec_word.specs.Header.{is_leaf, label_of as label_in}
use Rattle.rec_word.specs.Word.{stamp_of}
use Rattle.rec_model.specs.declared.answer.Answer.{Answer}
use Rattle.rec_model.specs.declared.answer.Answer.TheVariants as answers
use Rattle.rec_model.specs.declared.command.Cmd.{Cmd}
use Rattle.rec_model.specs.declared.command.Cmd.TheVariants as commands
use Rattle.rec_model.specs.declared.told.Told.{Told}
use Rattle.rec_model.specs.LegalOrder.{is_birth, is_new, word_left}
use Rattle.rec_model.specs.Sight.{Sight, IsSound, IsTaken}
use Rattle.rec_mutator.specs.Causes.{is_refusal, LacksObject, MakesEntry}
use Rattle.rec_mutator.specs.Private.{register, is_busy, work_of, answer_of}
use Rattle.rec_mutator.specs.Step.{IsUncollected}
use Rattle.rec_mutator.specs.declared.made.Made.{Made}
use Rattle.rec_core.specs.Config.{IsConfig, IsMutator, IsValid}
pub use Rattle.rec_core.specs.Core.{Core, cells_of, sight, mutator, with_mutator, crossing_of, log_length, opened}
use Rattle.rec_core.specs.Moves.{stepped, EndsRun}
use Rattle.rec_core.specs.StepAnswers.{IsFilled, sight_told}
pub use Rattle.rec_core.specs.StepAnswers.{entries_after}
pub use Rattle.rec_core.specs.Turn.{TurnHasCause, step_seen}
pub use Rattle.rec_core.specs.Unfinished.{OnlyWorks, IsQuiet, HasFound, Waits}
use Rattle.rec_core.specs.Worked.{StepsTo}
use Rattle.rec_core.specs.Kept.{IsHeader}

-- what every world keeps of its words and registers
pub record IsShaped (w : Core) : Type 0 where
  pub config : IsConfig w.config
  pub headers : length w.headers ≡ w.config.slots
  pub mutators : length w.mutators ≡ w.config.mutators
  pub registers : (t : ℕ) → IsMutator w.config t → length (mutator w t).registers ≡ w.config.registers
  pub slots : length w.collector.counts.slots ≡ w.config.slots
  pub labels : All IsHeader w.headers
  pub epoch : w.epoch < 2 ^ 24
  pub sound : IsSound (sight w)

-- what every world is: the end of a run from its opening
pub record IsWorld (w : Core) : Type 0 where
  pub shaped : IsShaped w
  pub run : EndsRun w

-- a command that this mutator may ask: what it names is there, and the mutator hasn't left
abbrev pub MayAsk : Core → (t : ℕ) → Cmd → Type 0
MayAsk w t cmd = IsValid w.config t cmd × ((mutator w t).left ≡ false)

-- the label in a header: none where the slot is free
abbrev pub label_of : ℕ → Option ℕ
label_of header = if header == 0 then None else Some (label_in header)

-- the command needs a log entry, and there is none left
abbrev IsLogFull : Core → ℕ → Cmd → Type 0
IsLogFull w t cmd = (log_length w t ≡ w.config.log_entries) × MakesEntry (mutator w t) cmd

-- the command writes a field of an object that is a leaf, and the log has room
abbrev pub WritesLeaf : Core → (t : ℕ) → Cmd → Type 0
WritesLeaf w t (commands.Put src f val) = (slot : ℕ) × (register (mutator w t) src ≡ Some slot) × (is_leaf (slice_index_or w.headers slot 0) ≡ true) × (log_length w t < w.config.log_entries)
WritesLeaf w t _ = ⊥

-- the command is an allocation that the log has room for, and every slot holds an object
pub record FindsNone (w : Core) (t : ℕ) (cmd : Cmd) : Type 0 where
  pub new : is_new cmd ≡ true
  pub room : log_length w t < w.config.log_entries
  pub filled : IsFilled w

-- and no sweep runs
pub record IsFull (w : Core) (t : ℕ) (cmd : Cmd) : Type 0 where
  pub none : FindsNone w t cmd
  pub even : w.freed % 2 ≡ 0

-- or one does
pub record IsBusy (w : Core) (t : ℕ) (cmd : Cmd) : Type 0 where
  pub none : FindsNone w t cmd
  pub odd : w.freed % 2 ≡ 1

-- the command is to leave, and the mutator's crossing word says that its mailbox isn't home with a spare: the log of the epoch before
-- is still to be collected
abbrev pub AwaitsCollector : Core → (t : ℕ) → Cmd → Type 0
AwaitsCollector w t commands.Leave = IsUncollected (crossing_of w t)
AwaitsCollector w t _ = ⊥

-- the command is to leave, and done: the mutator has left by it
abbrev pub is_leave_done : Cmd → Answer → Bool
is_leave_done commands.Leave answers.Done = true
is_leave_done _ _ = false

-- the epoch of a mutator after a command, where it was in this one before: one that has left is in the next one
abbrev pub epoch_after : Cmd → Answer → (before : ℕ) → ℕ
epoch_after commands.Leave answers.Done before = before + 1
epoch_after cmd answer before = before

-- the lowest slot that holds no object
pub record IsLowestFree (w : Sight) (slot : ℕ) : Type 0 where
  pub there : slot < length w.headers
  pub free : slice_index_or w.headers slot 0 ≡ 0
  pub lower : (s : ℕ) → s < slot → IsTaken w s

-- When each refusal of a command comes. It changes no register, no field, no header and no log: only the mutator's work differs.
pub record Refuses (before : Core) (t : ℕ) (cmd : Cmd) (told : Told) (after : Core) : Type 0 where
  pub log_full : (told.answer ≡ answers.LogFull) ↔ IsLogFull before t cmd
  pub full : (told.answer ≡ answers.Full) ↔ IsFull before t cmd
  pub busy : (first last : ℕ) → (told.answer ≡ answers.Busy first last) ↔ (IsBusy before t cmd × (first ≡ before.freed) × (last ≡ before.freed))
  pub no_object : (told.answer ≡ answers.NoObject) ↔ LacksObject (mutator before t) cmd
  pub no_field : (told.answer ≡ answers.NoField) ↔ WritesLeaf before t cmd
  pub not_yet : (told.answer ≡ answers.NotYet) ↔ AwaitsCollector before t cmd
  pub refused : is_refusal told.answer ≡ true → OnlyWorks before after t

-- What a command changes: a birth takes the lowest free slot, and a write leaves the stamp of its log entry.
pub record Changes (before : Core) (t : ℕ) (cmd : Cmd) (told : Told) (after : Core) : Type 0 where
  pub seen : (slot : ℕ) × (sight after ≡ sight_told (sight before) slot t cmd told) × (is_birth (cmd, told) ≡ true → IsLowestFree (sight before) slot)
  pub stamp : IfSome (word_left cmd told) (λ word. stamp_of word ≡ record { writer = t; epoch = (mutator before t).epoch; index = log_length before t })
  pub logged : log_length after t ≡ entries_after cmd told.answer (log_length before t)
  pub made : after.made ≡ before.made + (if is_birth (cmd, told) then 1 else 0)

-- What stays: the collector, the epochs, the freed word, the other mutators and the heap's numbers; and the mutator works no more. Only
-- one that leaves is in the next epoch then, and has left.
pub record Stays (before : Core) (t : ℕ) (cmd : Cmd) (told : Told) (after : Core) : Type 0 where
  pub collector : after.collector ≡ before.collector
  pub requested : after.epoch ≡ before.epoch
  pub epoch : (mutator after t).epoch ≡ epoch_after cmd told.answer (mutator before t).epoch
  pub left : (mutator after t).left ≡ is_leave_done cmd told.answer
  pub freed : after.freed ≡ before.freed
  pub others : (s : ℕ) → s ≢ t → 1 ≤ s → mutator after s ≡ mutator before s
  pub idle : is_busy (mutator after t) ≡ false
  pub config : after.config ≡ before.config

-- The work of a mutator was finished by steps, of which all but the last finished nothing.
pub record IsFinished (before : Core) (t : ℕ) (made : Made) (after : Core) : Type 0 where
  -- the state before the last step
  pub last : Core
  pub path : StepsTo before t last
  pub waits : Waits before last t
  pub busy : is_busy (mutator last t) ≡ true
  pub work : work_of (mutator last t) ≡ work_of (mutator before t)
  pub world : IsWorld last
  pub steps : after ≡ stepped last t
  pub answer : answer_of (mutator after t) ≡ Some made

-- the mutator stays in its epoch with its log, or is in the next one with an empty log
abbrev pub IsCrossed : (before after : Core) (t : ℕ) → Option ℕ → Type 0
IsCrossed before after t None = ((mutator after t).epoch ≡ (mutator before t).epoch) × (log_length after t ≡ log_length before t)
IsCrossed before after t (Some epoch) = (epoch ≡ (mutator before t).epoch + 1) × ((mutator after t).epoch ≡ epoch) × (log_length after t ≡ 0)

-- What a poll comes to: the mutator stays in its epoch just where that is the requested one, and else is in the requested one, with an
-- empty log. Nothing that is seen changes, and nothing of the collector; and the mutator hasn't left by it.
pub record IsPolled (before after : Core) (t : ℕ) (result : Option ℕ) : Type 0 where
  pub none : (result ≡ None) ↔ (before.epoch ≡ (mutator before t).epoch)
  pub some : (epoch : ℕ) → result ≡ Some epoch → epoch ≡ before.epoch
  pub crossed : IsCrossed before after t result
  pub quiet : IsQuiet before after t
  pub left : (mutator after t).left ≡ (mutator before t).left
  pub idle : is_busy (mutator after t) ≡ false
