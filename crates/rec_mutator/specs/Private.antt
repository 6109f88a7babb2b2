-- A mutator's machine as a whole: plain data, and what every machine keeps.
use Rattle.std.specs.Prelude.{◌≡◌, ℕ, ◌+◌, ◌%◌, ◌^◌, ◌<◌, ◌≤◌, ◌==◌, Bool, true, false, Option, None, Some, List, [], All, length, replicate, slice_index_or}
use Rattle.rec_word.specs.Bare.{dated_word}
use Rattle.rec_word.specs.Word.{packed, IsTarget}
use Rattle.rec_word.specs.declared.stamps.Stamp.{Stamp}
use Rattle.rec_model.specs.declared.command.Cmd.{Cmd}
use Rattle.rec_model.specs.declared.command.Cmd.TheVariants as commands
use Rattle.rec_model.specs.Asking.{allocation}
use Rattle.rec_model.specs.Operands as operands
use Rattle.rec_log.specs.declared.contents.Contents.{Contents}
use Rattle.rec_mutator.specs.declared.made.Made.{Made}
use Rattle.rec_mutator.specs.declared.passage.Passage.{Passage}
use Rattle.rec_mutator.specs.declared.passage.Passage.TheVariants.{Parks, Holds, Deposits, Unparks, Reopens, Frees}
use Rattle.rec_mutator.specs.declared.phase.Phase.{Phase}
use Rattle.rec_mutator.specs.declared.phase.Phase.TheVariants.{Idle, Begun, Scanning, Scanned, Storing, Crossing, Swapping, Giving, Leaving, Retiring, Parting, Finished, Passing}
use Rattle.rec_mutator.specs.declared.work.Work.{Work}
use Rattle.rec_mutator.specs.declared.work.Work.TheVariants as works

-- the mutator's number and epoch, slots of the heap and fields of an object, its registers, its log, the slot with which a scan begins,
-- how far its work has come, how many steps that took, whether it has left, whether it is parked, and whether the words that it puts
-- are dated: those of a heap are not
pub record Private : Type 0 where
  pub number : ℕ
  pub epoch : ℕ
  pub slots : ℕ
  pub fields : ℕ
  pub registers : List (Option ℕ)
  pub log : Contents
  pub from : ℕ
  pub phase : Phase
  pub steps : ℕ
  pub left : Bool
  pub parked : Bool
  pub dates : Bool

-- a mutator as it is opened with these registers: its log is empty, and so is the snapshot of `regs` registers in it; and its words are
-- dated or not
abbrev pub opened_by : (dates : Bool) → (number epoch slots fields : ℕ) (registers : List (Option ℕ)) (regs cap : ℕ) → Private
opened_by dates number epoch slots fields registers regs cap =
    record {
      number = number;
      epoch = epoch;
      slots = slots;
      fields = fields;
      registers = registers;
      log = record { entries = []; snapshot = replicate regs None; capacity = cap; last = false; still = false };
      from = 0;
      phase = Idle;
      steps = 0;
      left = false;
      parked = false;
      dates = dates;
    }

-- a machine as it is opened with these registers, as heaps have them
abbrev pub opened : (number epoch slots fields : ℕ) (registers : List (Option ℕ)) (regs cap : ℕ) → Private
opened number epoch slots fields registers regs cap = opened_by false number epoch slots fields registers regs cap

-- what a register names
abbrev pub register : Private → ℕ → Option ℕ
register p r = slice_index_or p.registers r None

-- the log has no room for another entry
abbrev pub is_full : Private → Bool
is_full p = length p.log.entries == p.log.capacity

-- the stamp of the next log entry
abbrev pub next_stamp : Private → Stamp
next_stamp p = record { writer = p.number; epoch = p.epoch; index = length p.log.entries }

-- the word that leads where a register does, with that stamp, and with the own epoch as its date where words are dated
abbrev pub word_for : Private → ℕ → ℕ
word_for p r = dated_word p.dates p.epoch (packed (register p r) (next_stamp p))

-- the slot that comes so many behind this one, where the first one follows the last
abbrev pub slot_behind : (slots from count : ℕ) → ℕ
slot_behind slots from count = (from + count) % slots

-- the slot that a scan probes after so many others: it begins with its first one, and goes round once
abbrev pub probe_of : Private → (probed : ℕ) → ℕ
probe_of p probed = slot_behind p.slots p.from probed

-- whether a work isn't finished, by phase
abbrev pub is_busy_at : Phase → Bool
is_busy_at Idle = false
is_busy_at (Begun work) = true
is_busy_at (Scanning reg label leaf before probed) = true
is_busy_at (Scanned reg label leaf before) = true
is_busy_at (Storing src f val slot) = true
is_busy_at Crossing = true
is_busy_at Swapping = true
is_busy_at Giving = true
is_busy_at Leaving = true
is_busy_at Retiring = true
is_busy_at Parting = true
is_busy_at (Finished work made) = false
is_busy_at (Passing passage) = true

-- whether a work was begun that isn't finished
abbrev pub is_busy : Private → Bool
is_busy p = is_busy_at p.phase

-- the command that a mutator carries out which parks or unparks
abbrev pub command_of : Passage → Cmd
command_of Parks = commands.Park
command_of Holds = commands.Park
command_of Deposits = commands.Park
command_of Unparks = commands.Unpark
command_of Reopens = commands.Unpark
command_of Frees = commands.Unpark

-- the work that was begun last, by phase
abbrev pub work_at : Phase → Option Work
work_at Idle = None
work_at (Begun work) = Some work
work_at (Scanning reg label leaf before probed) = Some (works.Command (allocation leaf reg label))
work_at (Scanned reg label leaf before) = Some (works.Command (allocation leaf reg label))
work_at (Storing src f val slot) = Some (works.Command (commands.Put src f val))
work_at Crossing = Some works.Poll
work_at Swapping = Some works.Poll
work_at Giving = Some works.Poll
work_at Leaving = Some (works.Command commands.Leave)
work_at Retiring = Some (works.Command commands.Leave)
work_at Parting = Some (works.Command commands.Leave)
work_at (Finished work made) = Some work
work_at (Passing passage) = Some (works.Command (command_of passage))

-- the work that was begun last
abbrev pub work_of : Private → Option Work
work_of p = work_at p.phase

-- what came of a finished work, by phase
abbrev pub answer_at : Phase → Option Made
answer_at (Finished work made) = Some made
answer_at _ = None

-- what came of the last work, if it is finished
abbrev pub answer_of : Private → Option Made
answer_of p = answer_at p.phase

-- the registers and fields that a command names are there
abbrev pub HasOperands : Private → Cmd → Type 0
HasOperands p cmd = operands.HasOperands (length p.registers) p.fields cmd

-- a poll, or a command whose operands are there
abbrev pub IsValid : Private → Work → Type 0
IsValid p (works.Command cmd) = HasOperands p cmd
IsValid p works.Poll = Unit {0}

-- the most steps that a work takes: an allocation loads the freed word, probes each slot, and loads it again; a write looks at the
-- header of its object, and exchanges the field; a poll loads the epoch word, takes the own mailbox and gives it back, and so does
-- leaving, which loads the own crossing word; parking and unparking take the present mailbox and give it back
abbrev pub limit_of : (slots : ℕ) → Work → ℕ
limit_of slots (works.Command (commands.New reg label)) = slots + 2
limit_of slots (works.Command (commands.Leaf reg label)) = slots + 2
limit_of slots (works.Command (commands.Put src f val)) = 2
limit_of slots (works.Command commands.Leave) = 3
limit_of slots (works.Command commands.Park) = 2
limit_of slots (works.Command commands.Unpark) = 2
limit_of slots works.Poll = 3
limit_of slots _ = 1

-- an allocation that goes on has a register and room in the log
pub record IsScan (p : Private) (reg : ℕ) : Type 0 where
  pub register : reg < length p.registers
  pub room : length p.log.entries < p.log.capacity

-- a stamp bears the own epoch
abbrev pub HasStamp : Private → Type 0
HasStamp p = p.epoch < 2 ^ 24

-- a write that goes on has its operands, this object, room in the log, and a stamp
pub record IsStore (p : Private) (src f val slot : ℕ) : Type 0 where
  pub operands : HasOperands p (commands.Put src f val)
  pub source : register p src ≡ Some slot
  pub room : length p.log.entries < p.log.capacity
  pub stamp : HasStamp p

-- there is an epoch after the own one
abbrev pub HasNext : Private → Type 0
HasNext p = p.epoch + 1 < 2 ^ 24

-- how many steps of parking or unparking were made
abbrev pub steps_to : Passage → ℕ
steps_to Parks = 0
steps_to Unparks = 0
steps_to _ = 1

-- whether the mutator is parked: only until the first step of unparking
abbrev pub parked_at : Passage → Bool
parked_at Unparks = true
parked_at _ = false

-- a mutator that parks or unparks hasn't left, and is so far
pub record IsOnPassage (p : Private) (passage : Passage) : Type 0 where
  pub steps : p.steps ≡ steps_to passage
  pub stays : p.left ≡ false
  pub parked : p.parked ≡ parked_at passage

-- what holds in each phase
abbrev pub IsAt : Private → Phase → Type 0
IsAt p Idle = p.steps ≡ 0
IsAt p (Begun work) = IsValid p work × (p.steps ≡ 0) × HasStamp p
IsAt p (Scanning reg label leaf before probed) = IsScan p reg × (probed < p.slots) × (p.steps ≡ probed + 1)
IsAt p (Scanned reg label leaf before) = IsScan p reg × (p.steps ≡ p.slots + 1)
IsAt p (Storing src f val slot) = IsStore p src f val slot × (p.steps ≡ 1)
IsAt p Crossing = (p.steps ≡ 1) × HasNext p
IsAt p Swapping = (p.steps ≡ 2) × HasNext p
IsAt p Giving = (p.steps ≡ 2) × HasNext p
IsAt p Leaving = (p.steps ≡ 1) × HasStamp p
IsAt p Retiring = (p.steps ≡ 2) × HasStamp p
IsAt p Parting = (p.steps ≡ 2) × HasStamp p
IsAt p (Finished work made) = p.steps ≤ limit_of p.slots work
IsAt p (Passing passage) = IsOnPassage p passage

-- what every machine keeps
pub record IsMachine (p : Private) : Type 0 where
  pub number : p.number < 2 ^ 6
  -- a mutator that has left makes no stamp, and may be an epoch further
  pub epoch : p.epoch ≤ 2 ^ 24
  pub stamped : p.left ≡ false → HasStamp p
  pub first_slot : 0 < p.slots
  pub last_slot : p.slots < 2 ^ 16
  pub capacity : p.log.capacity ≤ 2 ^ 18
  pub entries : length p.log.entries ≤ p.log.capacity
  pub registers : All IsTarget p.registers
  pub snapshot : length p.log.snapshot ≡ length p.registers
  pub from : p.from < p.slots
  pub now : IsAt p p.phase

-- what no step and no new work changes of a mutator that neither parks nor unparks: the numbers but for the epoch, the number of registers,
-- what the log can hold, and that it isn't parked
pub record KeepsSizes (p q : Private) : Type 0 where
  pub number : q.number ≡ p.number
  pub slots : q.slots ≡ p.slots
  pub fields : q.fields ≡ p.fields
  pub registers : length q.registers ≡ length p.registers
  pub capacity : q.log.capacity ≡ p.log.capacity
  pub parked : q.parked ≡ p.parked
