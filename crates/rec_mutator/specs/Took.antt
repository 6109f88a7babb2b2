-- What begins, and what is learnt: functions of the private record, of the word found, and of the buffer in the own mailbox.
use Rattle.std.specs.Prelude.{◌≡◌, ◌⊎◌, ℕ, ◌+◌, ◌-◌, ◌%◌, ◌^◌, ◌<◌, ◌≤◌, ◌==◌, ◌&&◌, Bool, true, false, Option, None, Some, List, [], ◌∷◌, ◌++◌, if◌then◌else◌, length, replicate, slice_set}
use Rattle.rec_word.specs.Header.{is_leaf, label_of, IsTakenHeader}
use Rattle.rec_word.specs.Place.{place_of}
use Rattle.rec_word.specs.Mailbox.{crossing_word, epoch_in, holds, is_parked, mailbox_of}
use Rattle.rec_word.specs.declared.mailbox.Mailbox.{Mailbox}
use Rattle.rec_word.specs.declared.mailbox.Mailbox.TheVariants.{Retired, Spare, WithCollector}
use Rattle.rec_word.specs.Word.{target_of}
use Rattle.rec_word.specs.declared.op.Op.{Op}
use Rattle.rec_word.specs.declared.op.Op.TheVariants as ops
use Rattle.rec_word.specs.declared.shift.Shift.{Shift}
use Rattle.rec_word.specs.declared.shift.Shift.TheVariants as shifts
use Rattle.rec_model.specs.declared.answer.Answer.{Answer}
use Rattle.rec_model.specs.declared.answer.Answer.TheVariants as answers
use Rattle.rec_model.specs.declared.command.Cmd.{Cmd}
use Rattle.rec_model.specs.declared.command.Cmd.TheVariants as commands
use Rattle.rec_model.specs.declared.told.Told.{Told}
use Rattle.rec_model.specs.Asking.{null_or_object, same, yes_or_no, plain, allocation}
use Rattle.rec_log.specs.declared.contents.Contents.{Contents}
use Rattle.rec_log.specs.declared.entry.Entry.{Entry}
use Rattle.rec_log.specs.declared.entry.Entry.TheVariants as entries
use Rattle.rec_mutator.specs.Private.{Private, register, is_full, word_for, probe_of}
use Rattle.rec_mutator.specs.declared.made.Made.TheVariants as makes
use Rattle.rec_mutator.specs.declared.passage.Passage.{Passage}
use Rattle.rec_mutator.specs.declared.passage.Passage.TheVariants.{Parks, Holds, Deposits, Unparks, Reopens, Frees}
use Rattle.rec_mutator.specs.declared.phase.Phase.{Phase}
use Rattle.rec_mutator.specs.declared.phase.Phase.TheVariants.{Idle, Begun, Scanning, Scanned, Storing, Crossing, Swapping, Giving, Leaving, Retiring, Parting, Finished, Passing}
use Rattle.rec_mutator.specs.declared.work.Work.{Work}
use Rattle.rec_mutator.specs.declared.work.Work.TheVariants as works

-- a work begins, whose scan, if it makes one, begins with this slot; no step of it is made
unfoldable pub begun_of : Private → Work → (from : ℕ) → Private
begun_of p work from = record p { from = from; phase = Begun work; steps = 0 }

-- one step was made, and this comes next
abbrev pub moved : Private → Phase → Private
moved p phase = record p { phase = phase; steps = p.steps + 1 }

-- one step was made, and a command is answered
abbrev pub answered : Private → Cmd → Told → Private
answered p cmd told = moved p (Finished (works.Command cmd) (makes.Answered told))

-- with a register changed
abbrev pub with_register : Private → ℕ → Option ℕ → Private
with_register p r target = record p { registers = slice_set p.registers r target }

-- with one entry more in the log
abbrev pub with_entry : Private → Entry → Private
with_entry p entry = record p { log = record p.log { entries = p.log.entries ++ entry ∷ [] } }

-- a register becomes what a field's word leads to, if there was an object
abbrev pub read_by : Private → Cmd → (dst word : ℕ) → Option ℕ → Private
read_by p cmd dst word None = answered p cmd (plain answers.NoObject)
read_by p cmd dst word (Some slot) = answered (with_register p dst (target_of word)) cmd (record { answer = null_or_object (target_of word); saw = word; left = 0 })

-- a write goes on where its object is no leaf
abbrev pub allowed_by : Private → (src f val slot : ℕ) → (leaf : Bool) → Private
allowed_by p src f val slot true = answered p (commands.Put src f val) (plain answers.NoField)
allowed_by p src f val slot false = moved p (Storing src f val slot)

-- the header tells whether a field may be written, if there was an object and room
abbrev pub written_by : Private → (src f val word : ℕ) → Option ℕ → (full : Bool) → Private
written_by p src f val word None full = answered p (commands.Put src f val) (plain answers.NoObject)
written_by p src f val word (Some slot) true = answered p (commands.Put src f val) (plain answers.LogFull)
written_by p src f val word (Some slot) false = allowed_by p src f val slot (is_leaf word)

-- the write of a field is logged with the word that stood there
abbrev pub stored : Private → (src f val slot word : ℕ) → Private
stored p src f val slot word =
    answered (with_entry p (entries.Put (place_of slot f p.fields) (word_for p val) word)) (commands.Put src f val) (record { answer = answers.Done; saw = word; left = word_for p val })

-- the label that a header tells, if there was an object
abbrev pub label_by : (word : ℕ) → Option ℕ → Answer
label_by word None = answers.NoObject
label_by word (Some slot) = answers.Value (label_of word)

-- an allocation begins its scan, if the log has room
abbrev pub new_by : Private → (word reg label : ℕ) → (leaf full : Bool) → Private
new_by p word reg label leaf full = if full then answered p (allocation leaf reg label) (plain answers.LogFull) else moved p (Scanning reg label leaf word 0)

-- the log of the epoch before is still to be collected: it is in the mailbox, or the collector has that
abbrev pub is_uncollected_in : Mailbox → Bool
is_uncollected_in Retired = true
is_uncollected_in WithCollector = true
is_uncollected_in _ = false

-- the own crossing word says so
abbrev pub is_uncollected : (crossing : ℕ) → Bool
is_uncollected crossing = is_uncollected_in (mailbox_of crossing)

-- a mutator leaves where its mailbox is home with a spare
abbrev pub leaving_by : Private → (uncollected : Bool) → Private
leaving_by p true = answered p commands.Leave (plain answers.NotYet)
leaving_by p false = moved p Leaving

-- the first step of a command
abbrev pub first_by : Private → (word : ℕ) → Cmd → Private
first_by p word (commands.New reg label) = new_by p word reg label false (is_full p)
first_by p word (commands.Leaf reg label) = new_by p word reg label true (is_full p)
first_by p word (commands.Null reg) = answered (with_register p reg None) (commands.Null reg) (plain answers.Done)
first_by p word (commands.Copy dst src) = answered (with_register p dst (register p src)) (commands.Copy dst src) (plain answers.Done)
first_by p word (commands.Get dst src f) = read_by p (commands.Get dst src f) dst word (register p src)
first_by p word (commands.Put src f val) = written_by p src f val word (register p src) (is_full p)
first_by p word (commands.Value reg) = answered p (commands.Value reg) (plain (label_by word (register p reg)))
first_by p word (commands.Same a b) = answered p (commands.Same a b) (plain (yes_or_no (same (register p a) (register p b))))
first_by p word commands.Leave = leaving_by p (is_uncollected word)
first_by p word commands.Park = answered p commands.Park (plain answers.Done)
first_by p word commands.Unpark = answered p commands.Unpark (plain answers.Done)

-- a poll that finds its own epoch is done; else the mutator crosses
abbrev pub polled : Private → (word : ℕ) → Private
polled p word = moved p (if word == p.epoch then Finished works.Poll (makes.Crossed None) else Crossing)

-- the first step of a work
abbrev pub begun_by : Private → (word : ℕ) → Work → Private
begun_by p word (works.Command cmd) = first_by p word cmd
begun_by p word works.Poll = polled p word

-- an object is born in a slot
abbrev pub born_in : Private → (reg label : ℕ) → (leaf : Bool) → (slot : ℕ) → Private
born_in p reg label leaf slot = answered (with_entry (with_register p reg (Some slot)) (entries.Born slot leaf)) (allocation leaf reg label) (plain answers.Done)

-- a probe after so many others: the slot was free and is won, or it was taken and the next one follows, until each was probed
abbrev pub probed : Private → (reg label : ℕ) → (leaf : Bool) → (before count word : ℕ) → Private
probed p reg label leaf before count word =
    if word == 0 then born_in p reg label leaf (probe_of p count) else moved p (if count + 1 == p.slots then Scanned reg label leaf before else Scanning reg label leaf before (count + 1))

-- no slot was free: the freed word was even and the same before and after the scan, or a sweep ran, began or ended meanwhile
abbrev pub none_free : (before after : ℕ) → Answer
none_free before after = if (before % 2 == 0) && (before == after) then answers.Full else answers.Busy before after

-- the log as it is retired: the registers are its snapshot
abbrev pub retired : Private → Contents
retired p = record p.log { snapshot = p.registers }

-- as many registers, all null
abbrev pub nulls_of : Private → List (Option ℕ)
nulls_of p = replicate (length p.registers) None

-- the log as it is retired by a mutator that leaves: no register names anything, and no log follows
abbrev pub last_of : Private → Contents
last_of p = record p.log { snapshot = nulls_of p; last = true }

-- a buffer for this mutator without entries, with a null snapshot
abbrev pub spare : Private → Contents
spare p = record { entries = []; snapshot = nulls_of p; capacity = p.log.capacity; last = false; still = false }

-- the own mailbox was taken, and the log is retired
abbrev pub retiring : Private → Private
retiring p = moved (record p { log = retired p }) Swapping

-- the own mailbox was taken by a mutator that leaves: every register is null, and the log is retired as its last one
abbrev pub letting_go : Private → Private
letting_go p = moved (record p { registers = nulls_of p; log = last_of p }) Retiring

-- the own mailbox was given back, and the mutator is in the next epoch
abbrev pub crossed : Private → Private
crossed p = moved (record p { epoch = p.epoch + 1 }) (Finished works.Poll (makes.Crossed (Some (p.epoch + 1))))

-- the own mailbox was given back, and the mutator has left
abbrev pub parted : Private → Private
parted p = answered (record p { epoch = p.epoch + 1; left = true }) commands.Leave (plain answers.Done)

-- unparking took the present mailbox where that still has the deposit, which is the log again next; else it is done. Either way the
-- mutator is in the epoch that its word tells, since the collector may have crossed for it.
abbrev pub awoken : Private → (word : ℕ) → (deposit : Bool) → Private
awoken p word true = moved (record p { epoch = epoch_in word; parked = false }) (Passing Reopens)
awoken p word false = answered (record p { epoch = epoch_in word; parked = false }) commands.Unpark (plain answers.Done)

-- what is learnt by a mutator that parks or unparks
abbrev pub passed : Private → (word : ℕ) → Passage → Private
passed p word Parks = moved (record p { log = retired p }) (Passing Holds)
passed p word Holds = moved p (Passing Holds)
passed p word Deposits = answered (record p { parked = true }) commands.Park (plain answers.Done)
passed p word Unparks = awoken p word (holds word)
passed p word Reopens = moved p (Passing Reopens)
passed p word Frees = answered p commands.Unpark (plain answers.Done)

-- what is learnt, by phase
unfoldable pub took_at : Private → (word : ℕ) → Phase → Private
took_at p word Idle = moved p Idle
took_at p word (Begun work) = begun_by p word work
took_at p word (Scanning reg label leaf before count) = probed p reg label leaf before count word
took_at p word (Scanned reg label leaf before) = answered p (allocation leaf reg label) (plain (none_free before word))
took_at p word (Storing src f val slot) = stored p src f val slot word
took_at p word Crossing = retiring p
took_at p word Swapping = moved p Swapping
took_at p word Giving = crossed p
took_at p word Leaving = letting_go p
took_at p word Retiring = moved p Retiring
took_at p word Parting = parted p
took_at p word (Finished work made) = moved p (Finished work made)
took_at p word (Passing passage) = passed p word passage

-- what is learnt
unfoldable pub took_of : Private → (word : ℕ) → Private
took_of p word = took_at p word p.phase

-- the buffer of the own mailbox becomes the log, and the log is left there
unfoldable pub swapped_at : Private → Contents → Phase → Private
swapped_at p buffer Swapping = record p { phase = Giving; log = buffer }
swapped_at p buffer Retiring = record p { phase = Parting; log = buffer }
swapped_at p buffer _ = p

-- the buffer of the own mailbox is swapped
unfoldable pub swapped_of : Private → Contents → Private
swapped_of p buffer = swapped_at p buffer p.phase

-- what the own mailbox holds then, by phase: what was the log, where the buffer is swapped
unfoldable pub left_at : Private → Contents → Phase → Contents
left_at p buffer Swapping = p.log
left_at p buffer Retiring = p.log
left_at p buffer _ = buffer

-- what the own mailbox holds then
unfoldable pub left_of : Private → Contents → Contents
left_of p buffer = left_at p buffer p.phase

-- a whole step: what is learnt of the word, and, where the step takes the own mailbox, of the buffer in it
unfoldable pub step_of : Private → (word : ℕ) → (box : Contents) → Private
step_of p word box = swapped_of (took_of p word) box

-- a scan has made no more probes than so many, by phase
abbrev pub IsAhead : Phase → (count : ℕ) → Type 0
IsAhead (Scanning reg label leaf before probed) count = probed ≤ count
IsAhead _ count = Unit {0}

-- a scan has made so many probes, by phase, and comes to the next one or to its end: each probe that it makes is a step
unfoldable pub skipped_at : Private → (count : ℕ) → Phase → Private
skipped_at p count (Scanning reg label leaf before probed) =
    record p { phase = if count == p.slots then Scanned reg label leaf before else Scanning reg label leaf before count; steps = p.steps + (count - probed) }
skipped_at p count _ = p

-- a scan has made so many probes
unfoldable pub skipped_to : Private → (count : ℕ) → Private
skipped_to p count = skipped_at p count p.phase

-- a mailbox is held, and its buffer is still to be swapped
abbrev pub IsSwapping : Phase → Type 0
IsSwapping Swapping = Unit {0}
IsSwapping Retiring = Unit {0}
IsSwapping _ = ⊥

-- A phase between two steps of a mutator that neither parks nor unparks: no mailbox waits to be swapped. No step of a command that was
-- begun, and none of a poll, leads to another phase.
abbrev pub IsBetween : Phase → Type 0
IsBetween Swapping = ⊥
IsBetween Retiring = ⊥
IsBetween (Passing passage) = ⊥
IsBetween _ = Unit {0}

-- the epoch word of a heap in which this mutator stands: its own epoch, or the next one
abbrev pub IsRequested : Private → (word : ℕ) → Type 0
IsRequested p word = (word ≡ p.epoch) ⊎ ((word ≡ p.epoch + 1) × (word < 2 ^ 24))

-- the own crossing word has these bits, and is of the own epoch
pub record HasBits (p : Private) (held parked : Bool) (word : ℕ) : Type 0 where
  pub own_epoch : epoch_in word ≡ p.epoch
  pub says_held : holds word ≡ held
  pub says_parked : is_parked word ≡ parked

-- The own crossing word of a parked mutator. As long as its deposit is there the word is of the own epoch; where it isn't, the collector
-- may have crossed for the mutator.
pub record IsOfParked (p : Private) (word : ℕ) : Type 0 where
  pub parked : is_parked word ≡ true
  pub deposit : holds word ≡ true → epoch_in word ≡ p.epoch
  pub later : p.epoch ≤ epoch_in word
  pub stamped : epoch_in word < 2 ^ 24

-- what the own crossing word has to be for each step of parking and unparking
abbrev pub FindsShift : Private → Shift → (word : ℕ) → Type 0
FindsShift p shifts.Hold word = HasBits p false false word
FindsShift p shifts.Park word = HasBits p true false word
FindsShift p shifts.Unpark word = IsOfParked p word
FindsShift p shifts.Free word = HasBits p true false word

-- what the word found has to be: the header of a taken slot; the own epoch or the next one; the crossing word that is taken
-- says that its mailbox is home with a spare; and who parks or unparks finds the bits of its crossing word as it left them
abbrev pub IsFound : Private → Op → ℕ → Type 0
IsFound p (ops.LoadHeader slot) word = IsTakenHeader word
IsFound p ops.LoadEpoch word = IsRequested p word
IsFound p (ops.TakeBox t e) word = word ≡ crossing_word p.epoch Spare
IsFound p (ops.ShiftBox t shift) word = FindsShift p shift word
IsFound p _ word = Unit {0}
