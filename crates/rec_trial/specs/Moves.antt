-- What trial deletion does to the counts, in marking, in scanning and in collecting.
use Rattle.std.specs.Prelude.{ℕ, ◌-◌, Bool, true, false, nat_lt, if◌then◌else◌, Option, None, Some, [], ◌∷◌, ◌++◌, map}
use Rattle.rec_counts.specs.Counts.{State, slot_at, with_slot, with_joined}
use Rattle.rec_counts.specs.declared.colour.Colour.{Colour}
use Rattle.rec_counts.specs.declared.colour.Colour.TheVariants.{Black, Purple, Gray, White, Orange}
use Rattle.rec_counts.specs.declared.slot.Slot.{Slot}
use Rattle.rec_counts.specs.Colour.{is_gray, is_white}

-- the slot has this colour
abbrev with_colour : State → ℕ → Colour → State
with_colour s x to = with_slot s x (record (slot_at s x) { colour = to })

abbrev pub touched_if : (gray : Bool) → State → ℕ → State
touched_if true s x = s
touched_if false s x = record (with_slot s x (record (slot_at s x) { colour = Gray; cyclic = (slot_at s x).count })) { marked = s.marked ++ x ∷ [] }

-- a slot that is not Gray becomes Gray, its cyclic count is its true count, and it is marked
abbrev pub touched : State → ℕ → State
touched s x = touched_if (is_gray (slot_at s x).colour) s x

-- one reference less in the cyclic count, which does not fall below zero
abbrev pub one_off : State → ℕ → State
one_off s x = with_slot s x (record (slot_at s x) { cyclic = (slot_at s x).cyclic - 1 })

-- marking loaded a word with this target
abbrev pub marked_by : State → Option ℕ → State
marked_by s None = s
marked_by s (Some x) = one_off (touched s x) x

abbrev pub dropped_if : (released : Bool) → Colour → State → ℕ → State
dropped_if true colour s x = record s { free = s.free ++ x ∷ [] }
dropped_if false Purple s x = touched_if false s x
dropped_if false _ s x = s

-- a slot that left the root buffer goes to the free list where it is released; else it is marked where it is Purple
abbrev pub dropped : State → ℕ → State
dropped s x = dropped_if (slot_at s x).released (slot_at s x).colour s x

abbrev pub blackened_if : Bool → State → ℕ → State
blackened_if true s x = record (with_colour s x Black) { work = s.work ++ x ∷ [] }
blackened_if false s x = s

-- scanning loaded a word with this target: where that is Gray it becomes Black, and its fields are loaded too
abbrev pub scanned_by : State → Option ℕ → State
scanned_by s None = s
scanned_by s (Some x) = blackened_if (is_gray (slot_at s x).colour) s x

-- a Gray slot which something holds that no marked slot accounts for
abbrev pub has_rest : Slot → Bool
has_rest v = if is_gray v.colour then nat_lt 0 v.cyclic else false

abbrev pub whitened_if : (gray : Bool) → Slot → Slot
whitened_if true v = record v { colour = White }
whitened_if false v = v

abbrev pub whitened : Slot → Slot
whitened v = whitened_if (is_gray v.colour) v

-- every slot that is Gray becomes White
abbrev pub all_whitened : State → State
all_whitened s = record s { slots = map whitened s.slots }

abbrev pub joined_if : Bool → State → ℕ → State
joined_if true s x = with_joined (with_colour s x Orange) x
joined_if false s x = s

-- collecting loaded a word with this target: where that is White it becomes Orange, and joins the last set
abbrev pub collected_by : State → Option ℕ → State
collected_by s None = s
collected_by s (Some x) = joined_if (is_white (slot_at s x).colour) s x

-- a set begins
abbrev pub with_new_set : State → State
with_new_set s = record s { sets = s.sets ++ [] ∷ [] }

-- nothing is marked any more
abbrev pub cleared : State → State
cleared s = record s { marked = []; work = [] }
