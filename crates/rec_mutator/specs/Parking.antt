-- How a mutator parks and unparks: how that begins, what becomes of the buffer in the present mailbox, and the rules of the steps.
use Rattle.std.specs.Prelude.{◌≡◌, ℕ, ◌≤◌, true, false, None, length, replicate}
use Rattle.rec_word.specs.Mailbox.{epoch_in, holds, is_parked, mailbox_of}
use Rattle.rec_word.specs.declared.op.Op.{Op}
use Rattle.rec_word.specs.declared.op.Op.TheVariants as ops
use Rattle.rec_word.specs.declared.shift.Shift.{Shift}
use Rattle.rec_word.specs.declared.shift.Shift.TheVariants as shifts
use Rattle.rec_model.specs.declared.answer.Answer.TheVariants as answers
use Rattle.rec_model.specs.declared.command.Cmd.TheVariants as commands
use Rattle.rec_model.specs.Asking.{plain}
use Rattle.rec_log.specs.declared.contents.Contents.{Contents}
use Rattle.rec_mutator.specs.Private.{Private}
use Rattle.rec_mutator.specs.Took.{answered, moved, retired, took_of}
use Rattle.rec_mutator.specs.declared.made.Made.TheVariants as makes
use Rattle.rec_mutator.specs.declared.passage.Passage.{Passage}
use Rattle.rec_mutator.specs.declared.passage.Passage.TheVariants.{Parks, Holds, Deposits, Unparks, Reopens, Frees}
use Rattle.rec_mutator.specs.declared.phase.Phase.{Phase}
use Rattle.rec_mutator.specs.declared.phase.Phase.TheVariants.{Finished, Passing}
use Rattle.rec_mutator.specs.declared.work.Work.TheVariants as works

-- parking or unparking begins; no step of it is made
abbrev pub sets_out : Private → Passage → Private
sets_out p passage = record p { phase = Passing passage; steps = 0 }

-- parking begins
unfoldable pub parking_of : Private → Private
parking_of p = sets_out p Parks

-- unparking begins
unfoldable pub unparking_of : Private → Private
unparking_of p = sets_out p Unparks

-- a deposit as a log that goes on: its snapshot is null
abbrev pub reopened : Contents → Contents
reopened b = record b { snapshot = replicate (length b.snapshot) None }

-- a buffer as large as the log, within its capacity
pub record FitsLog (p : Private) (b : Contents) : Type 0 where
  pub snapshot : length b.snapshot ≡ length p.registers
  pub capacity : b.capacity ≡ p.log.capacity
  pub entries : length b.entries ≤ b.capacity

-- the present mailbox is held, and its spare is still to be swapped for the log
abbrev pub IsDepositing : Phase → Type 0
IsDepositing (Passing Holds) = Unit {0}
IsDepositing _ = ⊥

-- the present mailbox is held, and its deposit is still to be swapped for the spare
abbrev pub IsReopening : Phase → Type 0
IsReopening (Passing Reopens) = Unit {0}
IsReopening _ = ⊥

-- a phase between two steps of a mutator that parks or unparks
abbrev pub IsPassing : Phase → Type 0
IsPassing (Passing Parks) = Unit {0}
IsPassing (Passing Deposits) = Unit {0}
IsPassing (Passing Unparks) = Unit {0}
IsPassing (Passing Frees) = Unit {0}
IsPassing _ = ⊥

-- the buffer of the present mailbox becomes the log, where that is held; a deposit is reopened
unfoldable pub berthed_at : Private → Contents → Phase → Private
berthed_at p buffer (Passing Holds) = record p { phase = Passing Deposits; log = buffer }
berthed_at p buffer (Passing Reopens) = record p { phase = Passing Frees; log = reopened buffer }
berthed_at p buffer _ = p

-- the buffer of the present mailbox is swapped
unfoldable pub berthed_of : Private → Contents → Private
berthed_of p buffer = berthed_at p buffer p.phase

-- what the present mailbox holds then: what was the log, where the buffer is swapped
unfoldable pub berth_left_at : Private → Contents → Phase → Contents
berth_left_at p buffer (Passing Holds) = p.log
berth_left_at p buffer (Passing Reopens) = p.log
berth_left_at p buffer _ = buffer

-- what the present mailbox holds then
unfoldable pub berth_left_of : Private → Contents → Contents
berth_left_of p buffer = berth_left_at p buffer p.phase

-- a whole step of parking or unparking: what is learnt of the word, and, where the step takes the present mailbox, of the buffer in it
unfoldable pub passage_of : Private → (word : ℕ) → (berth : Contents) → Private
passage_of p word berth = berthed_of (took_of p word) berth

-- A step of parking or unparking: in this phase it is this addition to the own crossing word, and it leaves that.
pub record Shifts (p : Private) (op : Op) (q : Private) (at : Passage) (shift : Shift) (becomes : Private) : Type 0 where
  pub phase : p.phase ≡ Passing at
  pub operation : op ≡ ops.ShiftBox p.number shift
  pub after : q ≡ becomes

-- What a step of parking or unparking may be. `word` is the word that the operation `op` finds, `berth` what is in the present mailbox, `q`
-- what the step leaves of `p`, `left` what it leaves in the present mailbox. Registers stay, and so do the entries of the log, but that a
-- deposit lies in the mailbox in the meantime, with the registers as its snapshot.
pub data Passes (p : Private) (word : ℕ) (berth : Contents) (op : Op) (q : Private) (left : Contents) : Type 0 where
  -- the mailbox is taken: the log is left there as the deposit, and the spare is the log
  deposits : Shifts p op q Parks shifts.Hold (moved (record p { log = berth }) (Passing Deposits)) → left ≡ record p.log { snapshot = p.registers } → Passes p word berth op q left
  -- it is given back, and the mutator is parked
  parks : Shifts p op q Deposits shifts.Park (answered (record p { parked = true }) commands.Park (plain answers.Done)) → left ≡ berth → Passes p word berth op q left
  -- the collector hasn't taken the deposit: it is the log again, and the spare is left in its place
  takes_back : holds word ≡ true → Shifts p op q Unparks shifts.Unpark (moved (record p { epoch = epoch_in word; parked = false; log = reopened berth }) (Passing Frees)) → left ≡ p.log → Passes p word berth op q left
  -- it has, or there was nothing to take: the mutator goes on with its spare, in the epoch into which the collector crossed for it
  unparks : holds word ≡ false → Shifts p op q Unparks shifts.Unpark (answered (record p { epoch = epoch_in word; parked = false }) commands.Unpark (plain answers.Done)) → left ≡ berth → Passes p word berth op q left
  -- the mailbox is given back with the spare
  frees : Shifts p op q Frees shifts.Free (answered p commands.Unpark (plain answers.Done)) → left ≡ berth → Passes p word berth op q left

-- The crossing word that a step leaves tells whether the mutator is parked and which epoch it is in, and the past mailbox is where it was.
pub record TellsParked (found left : ℕ) (q : Private) : Type 0 where
  pub mark : is_parked left ≡ q.parked
  pub own_epoch : epoch_in left ≡ q.epoch
  pub past : mailbox_of left ≡ mailbox_of found

-- Who parks and finds these words, with this spare in the present mailbox. Its log lies there, as it is retired, while it is parked.
abbrev pub parked_by : Private → (first second : ℕ) → (berth : Contents) → Private
parked_by p first second berth = passage_of (passage_of (parking_of p) first berth) second (retired p)

-- Who unparks and finds these words, with this deposit in the present mailbox.
abbrev pub unparked_by : Private → (first second : ℕ) → (deposit : Contents) → Private
unparked_by q first second deposit = passage_of (passage_of (unparking_of q) first deposit) second q.log

-- Parking and unparking behind it, where the collector has taken nothing in the meantime, change nothing of the mutator but the work that it
-- did last.
pub record ComesBack (p : Private) (first second third fourth : ℕ) (berth : Contents) : Type 0 where
  pub parked : (parked_by p first second berth).parked ≡ true
  pub spare_log : (parked_by p first second berth).log ≡ berth
  pub back : unparked_by (parked_by p first second berth) third fourth (retired p)
      ≡ record p { phase = Finished (works.Command commands.Unpark) (makes.Answered (plain answers.Done)); steps = 2 }
