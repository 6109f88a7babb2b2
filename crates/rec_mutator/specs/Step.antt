-- The steps of a mutator, one rule for each that it may make: what must hold before, the operation, and what it leaves.
use Rattle.std.specs.Prelude.{◌≡◌, ◌≢◌, ◌⊎◌, ℕ, ◌+◌, ◌*◌, ◌%◌, ◌<◌, ◌≤◌, ◌^◌, Bool, true, false, Option, None, Some, List, [], ◌∷◌, ◌++◌, length, slice_set}
use Rattle.rec_word.specs.Header.{header_word, is_leaf, label_of, IsTakenHeader}
use Rattle.rec_word.specs.Mailbox.{crossing_word, mailbox_of}
use Rattle.rec_word.specs.declared.mailbox.Mailbox.TheVariants.{Retired, Spare, WithCollector}
use Rattle.rec_word.specs.Place.{place_of}
use Rattle.rec_word.specs.Word.{target_of}
use Rattle.rec_word.specs.declared.op.Op.{Op}
use Rattle.rec_word.specs.declared.op.Op.TheVariants as ops
use Rattle.rec_model.specs.declared.answer.Answer.TheVariants as answers
use Rattle.rec_model.specs.declared.command.Cmd.{Cmd}
use Rattle.rec_model.specs.declared.command.Cmd.TheVariants as commands
use Rattle.rec_model.specs.declared.told.Told.{Told}
use Rattle.rec_model.specs.Asking.{null_or_object, same, yes_or_no, plain, allocation}
use Rattle.rec_log.specs.declared.contents.Contents.{Contents}
use Rattle.rec_log.specs.declared.entry.Entry.{Entry}
use Rattle.rec_log.specs.declared.entry.Entry.TheVariants as entries
use Rattle.rec_mutator.specs.Private.{Private, register, word_for, probe_of}
use Rattle.rec_mutator.specs.Next.{shift_of}
use Rattle.rec_mutator.specs.Took.{moved, answered, nulls_of, FindsShift, IsRequested}
use Rattle.rec_mutator.specs.declared.made.Made.TheVariants as makes
use Rattle.rec_mutator.specs.declared.passage.Passage.{Passage}
use Rattle.rec_mutator.specs.declared.phase.Phase.{Phase}
use Rattle.rec_mutator.specs.declared.phase.Phase.TheVariants.{Begun, Scanning, Scanned, Storing, Crossing, Giving, Leaving, Parting, Finished, Passing}
use Rattle.rec_mutator.specs.declared.work.Work.TheVariants as works

-- The command is decided. In this phase the operation is this one, and the step leaves these registers and log entries and
-- tells this; all else stays.
pub record Decides (p : Private) (op : Op) (q : Private) (cmd : Cmd) (at : Phase) (its_op : Op) (registers : List (Option ℕ)) (log_entries : List Entry) (told : Told) : Type 0 where
  pub phase : p.phase ≡ at
  pub operation : op ≡ its_op
  pub after : q ≡ answered (record p { registers = registers; log = record p.log { entries = log_entries } }) cmd told

-- A command that was begun is decided by its first step.
abbrev pub DecidesAtOnce : (p : Private) (op : Op) (q : Private) (cmd : Cmd) (its_op : Op) (registers : List (Option ℕ)) (log_entries : List Entry) (told : Told) → Type 0
DecidesAtOnce p op q cmd its_op registers log_entries told = Decides p op q cmd (Begun (works.Command cmd)) its_op registers log_entries told

-- The work goes on, or ends with nothing told to a command: registers and log stay.
pub record GoesOn (p : Private) (op : Op) (q : Private) (at : Phase) (its_op : Op) (next_phase : Phase) : Type 0 where
  pub phase : p.phase ≡ at
  pub operation : op ≡ its_op
  pub after : q ≡ moved p next_phase

-- A mutator that leaves holds its mailbox: every register is null, and this buffer is its log; all else stays.
pub record LetsGo (p : Private) (op : Op) (q : Private) (log : Contents) : Type 0 where
  pub phase : p.phase ≡ Leaving
  pub operation : op ≡ ops.TakeBox p.number (p.epoch + 1)
  pub after : q ≡ moved (record p { registers = nulls_of p; log = log }) Parting

-- A mutator that leaves gave its mailbox back, and has left: it is in the next epoch; all else stays.
pub record HasLeft (p : Private) (op : Op) (q : Private) : Type 0 where
  pub phase : p.phase ≡ Parting
  pub operation : op ≡ ops.GiveBox p.number (p.epoch + 1)
  pub after : q ≡ answered (record p { epoch = p.epoch + 1; left = true }) commands.Leave (plain answers.Done)

-- A crossing goes on: the mutator is in this epoch, with this buffer as its log; all else stays.
pub record Crosses (p : Private) (op : Op) (q : Private) (at : Phase) (its_op : Op) (epoch : ℕ) (log : Contents) (next_phase : Phase) : Type 0 where
  pub phase : p.phase ≡ at
  pub operation : op ≡ its_op
  pub after : q ≡ moved (record p { epoch = epoch; log = log }) next_phase

-- the log has no room for another entry
abbrev pub IsLogFull : Private → Type 0
IsLogFull p = length p.log.entries ≡ p.log.capacity

-- the log has room
abbrev pub HasRoom : Private → Type 0
HasRoom p = length p.log.entries ≢ p.log.capacity

-- the freed word was even and the same before and after a scan
abbrev pub IsStill : (before after : ℕ) → Type 0
IsStill before after = (before % 2 ≡ 0) × (before ≡ after)

-- the own crossing word says that the log of the epoch before is still to be collected: it is in the mailbox, or the collector has that
abbrev pub IsUncollected : (crossing : ℕ) → Type 0
IsUncollected crossing = (mailbox_of crossing ≡ Retired) ⊎ (mailbox_of crossing ≡ WithCollector)

-- What a step may be of a mutator that neither parks nor unparks (for these see `Parking`). `word` is the word that the operation `op` finds, `box` what is in the own mailbox, `q` what the step
-- leaves of `p`.
pub data Step (p : Private) (word : ℕ) (box : Contents) (op : Op) (q : Private) : Type 0 where
  null : (reg : ℕ) → DecidesAtOnce p op q (commands.Null reg) (ops.LoadCross p.number) (slice_set p.registers reg None) p.log.entries (plain answers.Done) → Step p word box op q
  copy : (dst src : ℕ) → DecidesAtOnce p op q (commands.Copy dst src) (ops.LoadCross p.number) (slice_set p.registers dst (register p src)) p.log.entries (plain answers.Done) → Step p word box op q
  compare : (a b : ℕ) → DecidesAtOnce p op q (commands.Same a b) (ops.LoadCross p.number) p.registers p.log.entries (plain (yes_or_no (same (register p a) (register p b)))) → Step p word box op q
  park : DecidesAtOnce p op q commands.Park (ops.LoadCross p.number) p.registers p.log.entries (plain answers.Done) → Step p word box op q
  unpark : DecidesAtOnce p op q commands.Unpark (ops.LoadCross p.number) p.registers p.log.entries (plain answers.Done) → Step p word box op q
  get_of_null : (dst src f : ℕ) → register p src ≡ None
      → DecidesAtOnce p op q (commands.Get dst src f) (ops.LoadCross p.number) p.registers p.log.entries (plain answers.NoObject) → Step p word box op q
  get : (dst src f slot : ℕ) → register p src ≡ Some slot
      → DecidesAtOnce p op q (commands.Get dst src f) (ops.LoadField (place_of slot f p.fields)) (slice_set p.registers dst (target_of word)) p.log.entries (record { answer = null_or_object (target_of word); saw = word; left = 0 })
      → Step p word box op q
  put_of_null : (src f val : ℕ) → register p src ≡ None
      → DecidesAtOnce p op q (commands.Put src f val) (ops.LoadCross p.number) p.registers p.log.entries (plain answers.NoObject) → Step p word box op q
  put_refused : (src f val slot : ℕ) → register p src ≡ Some slot → IsLogFull p
      → DecidesAtOnce p op q (commands.Put src f val) (ops.LoadCross p.number) p.registers p.log.entries (plain answers.LogFull) → Step p word box op q
  put_into_leaf : (src f val slot : ℕ) → register p src ≡ Some slot → HasRoom p → is_leaf word ≡ true
      → DecidesAtOnce p op q (commands.Put src f val) (ops.LoadHeader slot) p.registers p.log.entries (plain answers.NoField) → Step p word box op q
  put_begins : (src f val slot : ℕ) → register p src ≡ Some slot → HasRoom p → is_leaf word ≡ false
      → GoesOn p op q (Begun (works.Command (commands.Put src f val))) (ops.LoadHeader slot) (Storing src f val slot) → Step p word box op q
  put : (src f val slot : ℕ)
      → Decides p op q (commands.Put src f val) (Storing src f val slot) (ops.SwapField (place_of slot f p.fields) (word_for p val)) p.registers (p.log.entries ++ entries.Put (place_of slot f p.fields) (word_for p val) word ∷ []) (record { answer = answers.Done; saw = word; left = word_for p val })
      → Step p word box op q
  value_of_null : (reg : ℕ) → register p reg ≡ None
      → DecidesAtOnce p op q (commands.Value reg) (ops.LoadCross p.number) p.registers p.log.entries (plain answers.NoObject) → Step p word box op q
  value : (reg slot : ℕ) → register p reg ≡ Some slot
      → DecidesAtOnce p op q (commands.Value reg) (ops.LoadHeader slot) p.registers p.log.entries (plain (answers.Value (label_of word))) → Step p word box op q
  new_refused : (reg label : ℕ) (leaf : Bool) → IsLogFull p
      → DecidesAtOnce p op q (allocation leaf reg label) (ops.LoadCross p.number) p.registers p.log.entries (plain answers.LogFull) → Step p word box op q
  new_begins : (reg label : ℕ) (leaf : Bool) → HasRoom p → GoesOn p op q (Begun (works.Command (allocation leaf reg label))) ops.LoadFreed (Scanning reg label leaf word 0) → Step p word box op q
  new_wins : (reg label : ℕ) (leaf : Bool) (before probed : ℕ) → word ≡ 0
      → Decides p op q (allocation leaf reg label) (Scanning reg label leaf before probed) (ops.ClaimHeader (probe_of p probed) (header_word leaf label)) (slice_set p.registers reg (Some (probe_of p probed))) (p.log.entries ++ entries.Born (probe_of p probed) leaf ∷ []) (plain answers.Done)
      → Step p word box op q
  new_goes_on : (reg label : ℕ) (leaf : Bool) (before probed : ℕ) → word ≢ 0 → probed + 1 ≢ p.slots
      → GoesOn p op q (Scanning reg label leaf before probed) (ops.ClaimHeader (probe_of p probed) (header_word leaf label)) (Scanning reg label leaf before (probed + 1)) → Step p word box op q
  new_finds_none : (reg label : ℕ) (leaf : Bool) (before probed : ℕ) → word ≢ 0 → probed + 1 ≡ p.slots → GoesOn p op q (Scanning reg label leaf before probed) (ops.ClaimHeader (probe_of p probed) (header_word leaf label)) (Scanned reg label leaf before) → Step p word box op q
  new_is_full : (reg label : ℕ) (leaf : Bool) (before : ℕ) → IsStill before word
      → Decides p op q (allocation leaf reg label) (Scanned reg label leaf before) ops.LoadFreed p.registers p.log.entries (plain answers.Full) → Step p word box op q
  new_is_busy : (reg label : ℕ) (leaf : Bool) (before : ℕ) → (IsStill before word → ⊥)
      → Decides p op q (allocation leaf reg label) (Scanned reg label leaf before) ops.LoadFreed p.registers p.log.entries (plain (answers.Busy before word)) → Step p word box op q
  leave_refused : IsUncollected word → DecidesAtOnce p op q commands.Leave (ops.LoadCross p.number) p.registers p.log.entries (plain answers.NotYet) → Step p word box op q
  leave_begins : (IsUncollected word → ⊥) → GoesOn p op q (Begun (works.Command commands.Leave)) (ops.LoadCross p.number) Leaving → Step p word box op q
  leave : LetsGo p op q box → Step p word box op q
  leave_ends : HasLeft p op q → Step p word box op q
  poll_stays : word ≡ p.epoch → GoesOn p op q (Begun works.Poll) ops.LoadEpoch (Finished works.Poll (makes.Crossed None)) → Step p word box op q
  poll_crosses : word ≢ p.epoch → GoesOn p op q (Begun works.Poll) ops.LoadEpoch Crossing → Step p word box op q
  take_box : Crosses p op q Crossing (ops.TakeBox p.number (p.epoch + 1)) p.epoch box Giving → Step p word box op q
  give_box : Crosses p op q Giving (ops.GiveBox p.number (p.epoch + 1)) (p.epoch + 1) p.log (Finished works.Poll (makes.Crossed (Some (p.epoch + 1)))) → Step p word box op q

-- the own mailbox is taken next
abbrev pub TakesBox : Phase → Type 0
TakesBox Crossing = Unit {0}
TakesBox Leaving = Unit {0}
TakesBox _ = ⊥

-- What a step leaves in the own mailbox that held `box`: where it takes the mailbox, the log, with the registers written as its
-- snapshot, and of a mutator that leaves null ones and the mark; else what was there.
pub data LeavesBox (p : Private) (box left : Contents) : Type 0 where
  retires : p.phase ≡ Crossing → left ≡ record p.log { snapshot = p.registers } → LeavesBox p box left
  lets_go : p.phase ≡ Leaving → left ≡ record p.log { snapshot = nulls_of p; last = true } → LeavesBox p box left
  keeps : (TakesBox p.phase → ⊥) → left ≡ box → LeavesBox p box left

-- A whole step: what it leaves of the private record, and what in the own mailbox.
pub record WholeStep (p : Private) (word : ℕ) (box : Contents) (op : Op) (q : Private) (left : Contents) : Type 0 where
  pub own : Step p word box op q
  pub mailbox : LeavesBox p box left

-- the operation names a word of a heap with so many slots and fields, and no epoch but one that a stamp can bear, or the one behind
-- the last, into which a mutator may leave
abbrev pub NamesWord : (slots fields : ℕ) → Op → Type 0
NamesWord slots fields (ops.LoadField place) = place < slots * fields
NamesWord slots fields (ops.SwapField place word) = place < slots * fields
NamesWord slots fields (ops.LoadHeader slot) = slot < slots
NamesWord slots fields (ops.ClaimHeader slot header) = (slot < slots) × (0 < header)
NamesWord slots fields (ops.TakeBox t e) = e ≤ 2 ^ 24
NamesWord slots fields (ops.GiveBox t e) = e ≤ 2 ^ 24
NamesWord slots fields _ = Unit {0}

-- every register is null or names a slot of the heap
abbrev pub NamesSlots : Private → Type 0
NamesSlots p = (r slot : ℕ) → register p r ≡ Some slot → slot < p.slots

-- The word that each operation finds, if the heap is one whose registers name taken slots, whose epoch word is the own epoch or
-- the next one, in which a mailbox that the mutator takes is home with a spare, and in which its crossing word has the bits that
-- parking and unparking want.
pub record IsFitting (p : Private) (cell : Op → ℕ) : Type 0 where
  pub headers : (r slot : ℕ) → register p r ≡ Some slot → IsTakenHeader (cell (ops.LoadHeader slot))
  pub epoch : IsRequested p (cell ops.LoadEpoch)
  pub home : TakesBox p.phase → cell (ops.TakeBox p.number (p.epoch + 1)) ≡ crossing_word p.epoch Spare
  pub bits : (passage : Passage) → p.phase ≡ Passing passage → FindsShift p (shift_of passage) (cell (ops.ShiftBox p.number (shift_of passage)))
