-- What a batch told of the slots so far: which it touched, and what of each slot's references.
use Rattle.std.specs.Prelude.{◌≡◌, ℕ, ◌+◌, ◌-◌, ◌%◌, ◌^◌, ◌<◌, ◌≤◌, ◌==◌, Bool, true, false, not, nat_lt, if◌then◌else◌, List, [], ◌∷◌, ◌++◌, length, replicate, slice_index_or as item_at, slice_set as changed_at}
use Rattle.std.specs.List.{filter}
use Rattle.rec_counts.specs.declared.slot.Slot.{Slot}
use Rattle.rec_counts.specs.declared.touched.Mark.{Mark}
use Rattle.rec_counts.specs.declared.touched.Mark.TheVariants.{Untouched, Added, Taken}
use Rattle.rec_counts.specs.declared.colour.Colour.TheVariants.{Green}
use Rattle.rec_counts.specs.Lists.{one, times}
use Rattle.rec_counts.specs.Colour.{in_use}
use Rattle.rec_counts.specs.Slot.{absent, settled}

-- the mark of each slot, and the slots that something was taken off, in the order in which that was first told
pub record Touching : Type 0 where
  pub marks : List Mark
  pub taken : List ℕ

-- past the last slot there is no mark
abbrev pub mark_at : List Mark → ℕ → Mark
mark_at marks x = item_at marks x Untouched

-- so many slots, of which nothing was told
abbrev pub untouched : ℕ → Touching
untouched slots = record { marks = replicate slots Untouched; taken = [] }

abbrev pub is_untouched : Mark → Bool
is_untouched Untouched = true
is_untouched _ = false

abbrev pub is_added : Mark → Bool
is_added Added = true
is_added _ = false

abbrev pub is_taken : Mark → Bool
is_taken Taken = true
is_taken _ = false

-- a slot that was marked is known by one of two lists: that of the slots that something was taken off, or that of those that were first
-- told of with nothing taken off. Each has room for every slot.
pub record AreListed (marks : List Mark) (added : List ℕ) (added_room : ℕ) (taken : List ℕ) (taken_room : ℕ) : Type 0 where
  pub taken_once : (x : ℕ) → times x taken ≡ one (is_taken (mark_at marks x))
  pub added_once : (x : ℕ) → times x added + one (is_untouched (mark_at marks x)) ≤ 1
  pub added_all : (x : ℕ) → one (is_added (mark_at marks x)) ≤ times x added
  pub added_rooms : added_room ≡ length marks
  pub taken_rooms : taken_room ≡ length marks

-- the mark of a slot that one reference more was told of
abbrev mark_added : Mark → Mark
mark_added Untouched = Added
mark_added mark = mark

-- one reference to the slot more was told
abbrev pub with_added : Touching → ℕ → Touching
with_added t x = record t { marks = changed_at t.marks x (mark_added (mark_at t.marks x)) }

-- something was taken off the slot
abbrev pub with_taken : Touching → ℕ → Touching
with_taken t x = record { marks = changed_at t.marks x Taken; taken = if is_taken (mark_at t.marks x) then t.taken else t.taken ++ x ∷ [] }

-- While a batch is told, a count may pass zero or the greatest one, and wraps there: one reference more, or less, in the slots.
abbrev pub counted_more : List Slot → ℕ → List Slot
counted_more slots x = changed_at slots x (record (item_at slots x absent) { count = ((item_at slots x absent).count + 1) % 2 ^ 64 })

abbrev pub counted_less : List Slot → ℕ → List Slot
counted_less slots x = changed_at slots x (record (item_at slots x absent) { count = ((item_at slots x absent).count + (2 ^ 64 - 1)) % 2 ^ 64 })

-- each of these numbers once, in the order of its first place
abbrev pub firsts : List ℕ → List ℕ
firsts [] = []
firsts (x ∷ xs) = x ∷ filter (λ y. not (x == y)) (firsts xs)

-- a leaf that was born is Green
abbrev pub greened_if : Bool → Slot → Slot
greened_if true v = record v { colour = Green }
greened_if false v = v

-- the mark of a slot that references were added to or not, and taken off or not
abbrev pub mark_of : (added taken : Bool) → Mark
mark_of added true = Taken
mark_of true false = Added
mark_of false false = Untouched

-- What was told so far of the slots that were `before`: how often each was born a leaf, how many references more it has, and the slots
-- that a reference was taken off, one after another. Its count is right but for wrapping, and nothing else changed.
pub record Told (before : List Slot) (born added : ℕ → ℕ) (taken : List ℕ) (slots : List Slot) (touched : Touching) : Type 0 where
  pub many : length slots ≡ length before
  pub marked : length touched.marks ≡ length before
  pub slot : (x : ℕ) → item_at slots x absent ≡ record (greened_if (nat_lt 0 (born x)) (item_at before x absent)) { count = (item_at slots x absent).count }
  pub fits : (x : ℕ) → (item_at slots x absent).count < 2 ^ 64
  pub count : (x : ℕ) → ((item_at slots x absent).count + times x taken) % 2 ^ 64 ≡ ((item_at before x absent).count + added x) % 2 ^ 64
  pub marks : (x : ℕ) → mark_at touched.marks x ≡ mark_of (nat_lt 0 (added x)) (nat_lt 0 (times x taken))
  pub taken_first : touched.taken ≡ firsts taken

-- a slot with this mark, once it is settled: what something was taken off gets the colour that its count calls for, and what was only
-- added to is in use
abbrev pub settled_at : Mark → Slot → Slot
settled_at Taken v = settled v
settled_at Added v = record v { colour = in_use v.colour }
settled_at Untouched v = v

abbrev pub settled_where : Bool → Slot → Slot
settled_where true v = settled v
settled_where false v = v

abbrev pub used_where : Bool → Slot → Slot
used_where true v = record v { colour = in_use v.colour }
used_where false v = v
