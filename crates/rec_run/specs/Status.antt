-- The number of each status, and which statuses write nothing.
use Rattle.std.specs.Prelude.{ℕ, Bool, true, false}
use Rattle.rec_run.specs.declared.status.Status.{Status}
use Rattle.rec_run.specs.declared.status.Status.TheVariants.{Done, Usage, BadScript, ReadFault, WriteFault, NoMemory}

-- the exit status of the program
abbrev pub number_of : Status → ℕ
number_of Done = 0
number_of Usage = 2
number_of (BadScript line kind) = 3
number_of ReadFault = 4
number_of WriteFault = 5
number_of NoMemory = 6

-- whether something may have been written
abbrev pub may_write : Status → Bool
may_write Done = true
may_write WriteFault = true
may_write _ = false
