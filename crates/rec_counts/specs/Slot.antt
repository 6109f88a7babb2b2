-- What is kept of one slot, and how the calls change it.
use Rattle.std.specs.Prelude.{ℕ, ◌+◌, ◌-◌, ◌==◌, ◌||◌, Bool, true, false, Option, Some, None}
use Rattle.rec_counts.specs.Colour.{in_use, is_green, whitened}
use Rattle.rec_counts.specs.declared.slot.Slot.{Slot}
use Rattle.rec_counts.specs.declared.slot.Due.{Due}
use Rattle.rec_counts.specs.declared.slot.Due.TheVariants.{Nothing, Zero, Root}
use Rattle.rec_counts.specs.declared.colour.Colour.TheVariants.{Black, Purple}

-- a slot at opening
abbrev pub fresh : Slot
fresh = record { count = 1; cyclic = 0; colour = Black; buffered = false; released = false; set = None }

-- what is read past the last slot: it counts as released, so a slot that is not released is in range
abbrev pub absent : Slot
absent = record { count = 0; cyclic = 0; colour = Black; buffered = false; released = true; set = None }

-- one reference more: the slot is in use
abbrev pub raised : Slot → Slot
raised v = record v { count = v.count + 1; colour = in_use v.colour }

-- whether a slot keeps its colour where its count falls: a released one does, and a Green one
abbrev pub stays : Slot → Bool
stays v = v.released || is_green v.colour

-- one reference less, of a slot that keeps its colour (or does not), and had one reference (or more)
abbrev pub lessened_if : Bool → Bool → Slot → Slot
lessened_if true last v = record v { count = v.count - 1 }
lessened_if false true v = record v { count = v.count - 1; colour = Black }
lessened_if false false v = record v { count = v.count - 1; colour = Purple; buffered = true }

-- one reference less: a released slot, and a Green one, stay as they were but for the count; else the slot is Black where that
-- was the last reference, and where others are left it is Purple and buffered
abbrev pub lessened : Slot → Slot
lessened v = lessened_if (stays v) (v.count == 1) v

-- of a slot that is (or is not) released, had one reference (or more), and is in a buffer or Green (or neither)
abbrev pub due_if : Bool → Bool → Bool → Due
due_if true last kept_out = Nothing
due_if false true kept_out = Zero
due_if false false true = Nothing
due_if false false false = Root

-- where a slot goes that has one reference less: to the zeros where that was the last one, else to the root buffer
-- where it is in no buffer and isn't Green; a released slot goes nowhere
abbrev pub due_of : Slot → Due
due_of v = due_if v.released (v.count == 1) (v.buffered || is_green v.colour)

-- a slot that keeps its colour (or does not), and has no reference left (or some), once references were taken off
abbrev pub settled_if : (keeps none : Bool) → Slot → Slot
settled_if true none v = v
settled_if false true v = record v { colour = Black }
settled_if false false v = record v { colour = Purple; buffered = true }

-- once references were taken off: a released slot, and a Green one, stay as they are; else the slot is Black where no reference is left,
-- and where some are it is Purple and buffered
abbrev pub settled : Slot → Slot
settled v = settled_if (stays v) (v.count == 0) v

-- where the slot goes then: to the zeros where no reference is left, else to the root buffer where it is in no buffer and isn't
-- Green; a released slot goes nowhere
abbrev pub settled_due : Slot → Due
settled_due v = due_if v.released (v.count == 0) (v.buffered || is_green v.colour)

-- one reference less, also in the cyclic count, which does not fall below zero
abbrev pub lowered : Slot → Slot
lowered v = record v { count = v.count - 1; cyclic = v.cyclic - 1 }

-- swept: one reference, in use by nobody yet
abbrev pub swept_clean : Slot → Slot
swept_clean v = record v { count = 1; colour = Black; released = false }

-- in no buffer, and so in no set
abbrev pub unbuffered : Slot → Slot
unbuffered v = record v { buffered = false; set = None }

-- whether it is in the set of this number
abbrev pub is_in : ℕ → Option ℕ → Bool
is_in number None = false
is_in number (Some set) = set == number

-- a slot in no set is in no buffer any more, others stay
abbrev pub unrooted_if : Option ℕ → Slot → Slot
unrooted_if None v = record v { buffered = false }
unrooted_if (Some set) v = v

abbrev pub unrooted : Slot → Slot
unrooted v = unrooted_if v.set v

abbrev pub unbuffered_if : Bool → Slot → Slot
unbuffered_if true v = unbuffered v
unbuffered_if false v = v

-- a member of the set of this number is in no buffer any more, others stay
abbrev pub out_of_set : ℕ → Slot → Slot
out_of_set number v = unbuffered_if (is_in number v.set) v

-- the cyclic count becomes the true count
abbrev pub renewed_if : Bool → Slot → Slot
renewed_if true v = record v { cyclic = v.count }
renewed_if false v = v

-- released and Black
abbrev pub dead_if : Bool → Slot → Slot
dead_if true v = record v { released = true; colour = Black }
dead_if false v = v

-- given up: in no buffer, released and Black
abbrev pub given_up_if : Bool → Slot → Slot
given_up_if given v = dead_if given (unbuffered_if given v)

-- a member of the set of this number is given up, others stay
abbrev pub given_up_slot : ℕ → Slot → Slot
given_up_slot number v = given_up_if (is_in number v.set) v

-- White where it was Gray
abbrev pub white_if : Bool → Slot → Slot
white_if true v = record v { colour = whitened v.colour }
white_if false v = v
