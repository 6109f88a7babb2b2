-- What a step of a mutator shows, in a heap with its collector.
use Rattle.std.specs.Prelude.{◌≡◌, ℕ, ◌+◌, ◌<◌, if◌then◌else◌, Bool, true, false, Option, None, Some, slice_index_or}
use Rattle.std.specs.Option.{IfSome}
use Rattle.rec_word.specs.Header.{header_word}
use Rattle.rec_word.specs.Word.{target_of, stamp_of}
use Rattle.rec_model.specs.Asking.{is_done, plain, refuses_new}
use Rattle.rec_model.specs.Explained.{IsExplained}
use Rattle.rec_model.specs.Heap.{register}
use Rattle.rec_model.specs.LegalOrder.{is_birth, word_left}
use Rattle.rec_model.specs.Sight.{Sight, IsTaken, sight_with_register, sight_with_word, sight_with_header, sight_without_registers}
use Rattle.rec_model.specs.declared.answer.Answer.{Answer}
use Rattle.rec_model.specs.declared.answer.Answer.TheVariants as answers
use Rattle.rec_model.specs.declared.command.Cmd.{Cmd}
use Rattle.rec_model.specs.declared.command.Cmd.TheVariants as commands
use Rattle.rec_model.specs.declared.told.Told.{Told}
use Rattle.rec_mutator.specs.Causes.{HasCause}
use Rattle.rec_mutator.specs.Private.{Private, work_of, probe_of}
use Rattle.rec_mutator.specs.declared.made.Made.{Made}
use Rattle.rec_mutator.specs.declared.made.Made.TheVariants as makes
use Rattle.rec_mutator.specs.declared.phase.Phase.{Phase}
use Rattle.rec_mutator.specs.declared.phase.Phase.TheVariants.{Scanning, Leaving, Parting}
use Rattle.rec_mutator.specs.declared.work.Work.TheVariants as works
use Rattle.rec_core.specs.Core.{Core, sight, mutator, log_length}
use Rattle.rec_core.specs.Moves.{found_by}

-- every slot holds an object
abbrev pub IsFilled : Core → Type 0
IsFilled w = (slot : ℕ) → slot < w.config.slots → IsTaken (sight w) slot

-- an answer that the command can have: an allocation is done or refused
abbrev pub may_answer : Cmd → Answer → Bool
may_answer (commands.New reg label) answer = if is_done answer then true else refuses_new answer
may_answer (commands.Leaf reg label) answer = if is_done answer then true else refuses_new answer
may_answer _ answer = true

-- the log entries that a command made: one for a birth and one for a write
abbrev entries_of : Cmd → Answer → ℕ
entries_of (commands.New reg label) answers.Done = 1
entries_of (commands.Leaf reg label) answers.Done = 1
entries_of (commands.Put src f val) answers.Done = 1
entries_of _ _ = 0

-- the entries of a mutator's log after a command, where there were so many before: the log of one that has left is a spare
abbrev pub entries_after : Cmd → Answer → (before : ℕ) → ℕ
entries_after commands.Leave answers.Done before = 0
entries_after cmd answer before = before + entries_of cmd answer

-- what is seen after a birth in a slot, with this header
abbrev pub sight_with_birth : Sight → ℕ → ℕ → ℕ → ℕ → Sight
sight_with_birth w t reg slot header = sight_with_register (sight_with_header w slot header) t reg (Some slot)

-- what is seen after a read of a field, if there was an object
abbrev pub sight_after_get : Sight → ℕ → ℕ → Option ℕ → Option ℕ → Sight
sight_after_get w t dst None target = w
sight_after_get w t dst (Some slot) target = sight_with_register w t dst target

-- what is seen after a write of a field, where it was made
abbrev pub sight_after_put : Sight → ℕ → Option ℕ → Bool → ℕ → Sight
sight_after_put w f (Some slot) true word = sight_with_word w slot f word
sight_after_put w f _ _ word = w

-- What is seen after a command that was told this, where an object that is born has this slot: a birth takes the slot and a
-- register, a write one field's word, a read, a copy or a null one register, and all else stays.
abbrev pub sight_told : Sight → (slot t : ℕ) → Cmd → Told → Sight
sight_told w slot t (commands.New reg label) told = if is_done told.answer then sight_with_birth w t reg slot (header_word false label) else w
sight_told w slot t (commands.Leaf reg label) told = if is_done told.answer then sight_with_birth w t reg slot (header_word true label) else w
sight_told w slot t (commands.Null reg) told = sight_with_register w t reg None
sight_told w slot t (commands.Copy dst src) told = sight_with_register w t dst (register w.registers t src)
sight_told w slot t (commands.Get dst src f) told = sight_after_get w t dst (register w.registers t src) (target_of told.saw)
sight_told w slot t (commands.Put src f val) told = sight_after_put w f (register w.registers t src) (is_done told.answer) told.left
sight_told w slot t (commands.Value reg) told = w
sight_told w slot t (commands.Same a b) told = w
sight_told w slot t commands.Park told = w
sight_told w slot t commands.Unpark told = w
sight_told w slot t commands.Leave told = if is_done told.answer then sight_without_registers w t else w

-- the slot that a scan has come to, by phase
abbrev pub probed_at : Private → Phase → Option ℕ
probed_at p (Scanning reg label leaf before probed) = Some (probe_of p probed)
probed_at p _ = None

-- a free slot that a mutator's scan has come to
pub record IsBirthplace (w : Core) (t slot : ℕ) : Type 0 where
  pub there : slot < w.config.slots
  pub free : slice_index_or w.headers slot 0 ≡ 0
  pub probed : probed_at (mutator w t) (mutator w t).phase ≡ Some slot

-- what a command that was told this leaves of what is seen: a birth has the slot to which the scan has come
pub record Leaves (w : Core) (t : ℕ) (cmd : Cmd) (told : Told) (after : Sight) (slot : ℕ) : Type 0 where
  pub seen : after ≡ sight_told (sight w) slot t cmd told
  pub birth : is_birth (cmd, told) ≡ true → IsBirthplace w t slot

-- What is said of a step that decides a command. Whatever heap stood for what was seen explains the answer; Full is told only
-- where every slot holds an object. Births and the mutator's log entries are counted, a word that is left bears the stamp of the
-- mutator's next entry, and no epoch and no sweep changes.
pub record IsDecided (w : Core) (t : ℕ) (cmd : Cmd) (told : Told) (v : Core) : Type 0 where
  pub explained : IsExplained (sight w) t cmd told (sight v)
  pub leaves : (slot : ℕ) × Leaves w t cmd told (sight v) slot
  pub kind : may_answer cmd told.answer ≡ true
  pub full : told.answer ≡ answers.Full → IsFilled w
  pub made : v.made ≡ w.made + (if is_birth (cmd, told) then 1 else 0)
  pub logged : log_length v t ≡ entries_after cmd told.answer (log_length w t)
  pub stamp : IfSome (word_left cmd told) (λ word. stamp_of word ≡ record { writer = t; epoch = (mutator w t).epoch; index = log_length w t })
  pub epoch : (mutator v t).epoch ≡ (mutator w t).epoch
  pub requested : v.epoch ≡ w.epoch
  pub freed : v.freed ≡ w.freed

-- What came of a step that isn't one of leaving. Where it answers a command, that is decided, and each refusal has its cause; else
-- all that is seen stays.
abbrev pub IsShownAs : (before : Core) (t : ℕ) → Option Made → (after : Core) → Type 0
IsShownAs before t (Some (makes.Answered told)) after =
    (cmd : Cmd) × (work_of (mutator before t) ≡ Some (works.Command cmd)) × IsDecided before t cmd told after × HasCause (mutator before t) (mutator after t) cmd (found_by before t) told.answer
IsShownAs before t _ after = sight after ≡ sight before

-- What came of a step, by the phase in which it is made. A mutator that leaves is done with that where it takes its mailbox, and is
-- answered by the next step, of which nothing is seen.
abbrev pub IsShownAt : (before : Core) (t : ℕ) → Phase → Option Made → (after : Core) → Type 0
IsShownAt before t Leaving made after = IsDecided before t commands.Leave (plain answers.Done) after
IsShownAt before t Parting made after =
    (made ≡ Some (makes.Answered (plain answers.Done))) × (sight after ≡ sight before) × HasCause (mutator before t) (mutator after t) commands.Leave (found_by before t) answers.Done
IsShownAt before t _ made after = IsShownAs before t made after

-- what came of a step
abbrev pub IsShown : (before : Core) (t : ℕ) → Option Made → (after : Core) → Type 0
IsShown before t made after = IsShownAt before t (mutator before t).phase made after
