-- What an operation names, what it does there, and what it leaves.
use Rattle.std.specs.Prelude.{ℕ, ◌-◌, ◌^◌, Option, None, Some, if◌then◌else◌}
use Rattle.rec_word.specs.Atom.{leaves}
use Rattle.rec_word.specs.Mailbox.{crossing_word, holds}
use Rattle.rec_word.specs.declared.atom.Atom.{Atom}
use Rattle.rec_word.specs.declared.atom.Atom.TheVariants.{Load, Exchange, CompareExchange, Add, Look}
use Rattle.rec_word.specs.declared.cell.Cell.{Cell}
use Rattle.rec_word.specs.declared.cell.Cell.TheVariants.{Field, Header, Epoch, Freed, Crossing}
use Rattle.rec_word.specs.declared.mailbox.Mailbox.TheVariants.{WithMutator, Retired}
use Rattle.rec_word.specs.declared.op.Op.{Op}
use Rattle.rec_word.specs.declared.op.Op.TheVariants.{LoadField, SwapField, LoadHeader, LoadEpoch, LoadCross, ClaimHeader, LoadFreed, LoadChild, ClearField, FreeHeader, TakeBox, GiveBox, StoreEpoch, LookBox, ReturnBox, AddFreed, ShiftBox}
use Rattle.rec_word.specs.declared.shift.Shift.{Shift}
use Rattle.rec_word.specs.declared.shift.Shift.TheVariants.{Hold, Park, Unpark, Free}

-- the word that it names
abbrev pub cell_of : Op → Cell
cell_of (LoadField place) = Field place
cell_of (SwapField place word) = Field place
cell_of (LoadHeader slot) = Header slot
cell_of LoadEpoch = Epoch
cell_of (LoadCross t) = Crossing t
cell_of (ClaimHeader slot header) = Header slot
cell_of LoadFreed = Freed
cell_of (LoadChild place) = Field place
cell_of (ClearField place) = Field place
cell_of (FreeHeader slot) = Header slot
cell_of (TakeBox t epoch) = Crossing t
cell_of (GiveBox t epoch) = Crossing t
cell_of (StoreEpoch epoch) = Epoch
cell_of (LookBox t epoch) = Crossing t
cell_of (ReturnBox t epoch) = Crossing t
cell_of AddFreed = Freed
cell_of (ShiftBox t shift) = Crossing t

-- what a step of parking or unparking adds to the crossing word: bit 32 says whether the present mailbox is held, bit 33 whether the
-- mutator is parked, and to go back so much less than 2^64 is added
abbrev pub amount_of : Shift → ℕ
amount_of Hold = 2 ^ 32
amount_of Park = 2 ^ 33
amount_of Unpark = 2 ^ 64 - 2 ^ 33
amount_of Free = 2 ^ 64 - 2 ^ 32

-- what it does there: a claim takes a header that is 0; what clears leaves 0; a crossing word tells where its mailbox is
-- then, a look changes it only where it takes a mailbox or crosses for a parked mutator, and giving the mailbox back goes from 3 to 0
-- in bits 0 and 1, and leaves all others
abbrev pub atom_of : Op → Atom
atom_of (LoadField place) = Load
atom_of (SwapField place word) = Exchange word
atom_of (LoadHeader slot) = Load
atom_of LoadEpoch = Load
atom_of (LoadCross t) = Load
atom_of (ClaimHeader slot header) = CompareExchange 0 header
atom_of LoadFreed = Load
atom_of (LoadChild place) = Load
atom_of (ClearField place) = Exchange 0
atom_of (FreeHeader slot) = Exchange 0
atom_of (TakeBox t epoch) = Exchange (crossing_word epoch WithMutator)
atom_of (GiveBox t epoch) = Exchange (crossing_word epoch Retired)
atom_of (StoreEpoch epoch) = Exchange epoch
atom_of (LookBox t epoch) = Look epoch
atom_of (ReturnBox t epoch) = Add (2 ^ 64 - 3)
atom_of AddFreed = Add 1
atom_of (ShiftBox t shift) = Add (amount_of shift)

-- what it leaves there, where this word was found
abbrev pub written : Op → ℕ → ℕ
written op found = leaves (atom_of op) found

-- the mutator whose past mailbox it takes, if it takes one; a look takes it only where the word that it finds lets it
abbrev pub mailbox_of : Op → Option ℕ
mailbox_of (TakeBox t epoch) = Some t
mailbox_of (LookBox t epoch) = Some t
mailbox_of _ = None

-- the mutator whose present mailbox it takes where it finds this word, if it takes one; whoever unparks takes it only where the word says
-- that the deposit is still there
abbrev pub berth_of : Op → (found : ℕ) → Option ℕ
berth_of (ShiftBox t Hold) found = Some t
berth_of (ShiftBox t Unpark) found = if holds found then Some t else None
berth_of _ found = None
