-- The numbers of the codes.
use Rattle.std.specs.Prelude.{◌≡◌, ℕ}
use Rattle.rec_core.specs.declared.part.Part.{Part}
use Rattle.rec_core.specs.declared.part.Part.TheVariants as parts
use Rattle.rec_world.specs.declared.open_error.OpenError.{OpenError}
use Rattle.rec_world.specs.declared.open_error.OpenError.TheVariants as errors
use Rattle.rec_image.specs.declared.error.RenewError.{RenewError}
use Rattle.rec_image.specs.declared.error.RenewError.TheVariants as renewals
use Rattle.recycler_c.specs.declared.code.Code.{Code}
use Rattle.recycler_c.specs.declared.code.Code.TheVariants as codes

-- the number that C sees
abbrev pub number_of : Code → ℕ
number_of codes.Ok = 0
number_of codes.NoMemory = 1
number_of codes.Slots = 2
number_of codes.Fields = 3
number_of codes.Registers = 4
number_of codes.Mutators = 5
number_of codes.LogEntries = 6
number_of codes.FirstEpoch = 7
number_of codes.Closed = 8
number_of codes.Open = 9
number_of codes.Runs = 10
number_of codes.Rests = 11
number_of codes.Other = 12
number_of codes.Range = 13
number_of codes.EpochsSpent = 14
number_of codes.Shared = 15
number_of codes.Left = 16
number_of codes.FewSlots = 17

-- the code of a number that is out of its range
abbrev code_at : Part → Code
code_at parts.Slots = codes.Slots
code_at parts.Fields = codes.Fields
code_at parts.Registers = codes.Registers
code_at parts.Mutators = codes.Mutators
code_at parts.LogEntries = codes.LogEntries
code_at parts.FirstEpoch = codes.FirstEpoch

-- the code of a heap that wasn't opened
abbrev pub code_of : OpenError → Code
code_of (errors.Config part) = code_at part
code_of errors.NoMemory = codes.NoMemory

-- the code of a heap that doesn't begin anew
abbrev pub renewal_code : RenewError → Code
renewal_code renewals.Slots = codes.Slots
renewal_code renewals.FewSlots = codes.FewSlots
renewal_code renewals.NoMemory = codes.NoMemory

-- a call answered this number, and of its code this holds
abbrev pub Answers : ℕ → (Code → Type 0) → Type 0
Answers n P = (code : Code) × (n ≡ number_of code) × P code
