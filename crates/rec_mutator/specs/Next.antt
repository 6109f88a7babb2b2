-- Which operation comes next: a function of the private record alone.
use Rattle.std.specs.Prelude.{ℕ, ◌+◌, Bool, true, false, Option, None, Some, if◌then◌else◌}
use Rattle.rec_word.specs.Header.{header_word}
use Rattle.rec_word.specs.Place.{place_of}
use Rattle.rec_word.specs.declared.op.Op.{Op}
use Rattle.rec_word.specs.declared.op.Op.TheVariants as ops
use Rattle.rec_word.specs.declared.shift.Shift.{Shift}
use Rattle.rec_word.specs.declared.shift.Shift.TheVariants as shifts
use Rattle.rec_model.specs.declared.command.Cmd.{Cmd}
use Rattle.rec_model.specs.declared.command.Cmd.TheVariants as commands
use Rattle.rec_mutator.specs.Private.{Private, register, is_full, word_for, probe_of}
use Rattle.rec_mutator.specs.declared.passage.Passage.{Passage}
use Rattle.rec_mutator.specs.declared.passage.Passage.TheVariants.{Parks, Holds, Deposits, Unparks, Reopens, Frees}
use Rattle.rec_mutator.specs.declared.phase.Phase.{Phase}
use Rattle.rec_mutator.specs.declared.phase.Phase.TheVariants.{Idle, Begun, Scanning, Scanned, Storing, Crossing, Swapping, Giving, Leaving, Retiring, Parting, Finished, Passing}
use Rattle.rec_mutator.specs.declared.work.Work.{Work}
use Rattle.rec_mutator.specs.declared.work.Work.TheVariants as works

-- the step in which a command is decided that needs no shared word: the own crossing word is loaded
abbrev pub own_word : Private → Op
own_word p = ops.LoadCross p.number

-- a read of a field, of the object in a register if there is one
abbrev pub read_op : Private → (f : ℕ) → Option ℕ → Op
read_op p f None = own_word p
read_op p f (Some slot) = ops.LoadField (place_of slot f p.fields)

-- a write of a field: a look at the object's header, if there is an object and the log has room
abbrev pub write_op : Private → Option ℕ → (full : Bool) → Op
write_op p None full = own_word p
write_op p (Some slot) true = own_word p
write_op p (Some slot) false = ops.LoadHeader slot

-- a look at a label, if there is an object
abbrev pub label_op : Private → Option ℕ → Op
label_op p None = own_word p
label_op p (Some slot) = ops.LoadHeader slot

-- an allocation, if the log has room
abbrev pub new_op : Private → (full : Bool) → Op
new_op p full = if full then own_word p else ops.LoadFreed

-- the first step of a command
abbrev pub first_op : Private → Cmd → Op
first_op p (commands.New reg label) = new_op p (is_full p)
first_op p (commands.Leaf reg label) = new_op p (is_full p)
first_op p (commands.Null reg) = own_word p
first_op p (commands.Copy dst src) = own_word p
first_op p (commands.Get dst src f) = read_op p f (register p src)
first_op p (commands.Put src f val) = write_op p (register p src) (is_full p)
first_op p (commands.Value reg) = label_op p (register p reg)
first_op p (commands.Same a b) = own_word p
first_op p commands.Leave = own_word p
first_op p commands.Park = own_word p
first_op p commands.Unpark = own_word p

-- the first step of a work
abbrev pub begun_op : Private → Work → Op
begun_op p (works.Command cmd) = first_op p cmd
begun_op p works.Poll = ops.LoadEpoch

-- the next step of a mutator that parks or unparks
abbrev pub shift_of : Passage → Shift
shift_of Parks = shifts.Hold
shift_of Holds = shifts.Park
shift_of Deposits = shifts.Park
shift_of Unparks = shifts.Unpark
shift_of Reopens = shifts.Free
shift_of Frees = shifts.Free

-- what comes next, by phase
unfoldable pub next_at : Private → Phase → Op
next_at p Idle = own_word p
next_at p (Begun work) = begun_op p work
next_at p (Scanning reg label leaf before probed) = ops.ClaimHeader (probe_of p probed) (header_word leaf label)
next_at p (Scanned reg label leaf before) = ops.LoadFreed
next_at p (Storing src f val slot) = ops.SwapField (place_of slot f p.fields) (word_for p val)
next_at p Crossing = ops.TakeBox p.number (p.epoch + 1)
next_at p Swapping = ops.GiveBox p.number (p.epoch + 1)
next_at p Giving = ops.GiveBox p.number (p.epoch + 1)
next_at p Leaving = ops.TakeBox p.number (p.epoch + 1)
next_at p Retiring = ops.GiveBox p.number (p.epoch + 1)
next_at p Parting = ops.GiveBox p.number (p.epoch + 1)
next_at p (Finished work made) = own_word p
next_at p (Passing passage) = ops.ShiftBox p.number (shift_of passage)

-- what comes next
unfoldable pub next_of : Private → Op
next_of p = next_at p p.phase
