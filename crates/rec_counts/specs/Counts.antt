-- The counts as one plain record, and what the calls make of it.
use Rattle.std.specs.Prelude.{ℕ, ◌+◌, ◌-◌, ◌≤◌, false, true, Some, List, [], ◌∷◌, ◌++◌, length, map, replicate, slice_index_or as item_at, slice_set as changed_at}
use Rattle.rec_counts.specs.declared.slot.Slot.{Slot}
use Rattle.rec_counts.specs.declared.slot.Due.{Due}
use Rattle.rec_counts.specs.declared.slot.Due.TheVariants.{Nothing, Zero, Root}
use Rattle.rec_counts.specs.Slot.{absent, fresh, lessened, due_of, given_up_slot, out_of_set}
use Rattle.rec_counts.specs.Groups.{last_set, earlier_sets, with_member}
use Rattle.rec_counts.specs.Lists.{times}
use Rattle.rec_counts.specs.Kept.{Kept}

-- what is kept of each slot; the root buffer; the sets of the cycle buffer; the other lists
pub record State : Type 0 where
  pub slots : List Slot
  pub roots : List ℕ
  pub sets : List (List ℕ)
  pub marked : List ℕ
  pub work : List ℕ
  pub zeros : List ℕ
  pub free : List ℕ

-- what always holds
abbrev pub IsKept : State → Type 0
IsKept s = Kept s.slots s.roots s.sets s.marked s.work s.zeros s.free

-- what is kept of a slot; past the last one, it is unbuffered, released and in no set
abbrev pub slot_at : State → ℕ → Slot
slot_at s x = item_at s.slots x absent

-- the state with this in place of what was kept of the slot
abbrev pub with_slot : State → ℕ → Slot → State
with_slot s x v = record s { slots = changed_at s.slots x v }

-- these slots, of which no list has any
abbrev pub unlisted : List Slot → State
unlisted slots = record { slots = slots; roots = []; sets = []; marked = []; work = []; zeros = []; free = [] }

-- a slot at opening that has this count
abbrev pub counted : ℕ → Slot
counted count = record fresh { count = count }

-- the slots at opening: the first have these counts, every other one
abbrev pub counted_slots : ℕ → List ℕ → List Slot
counted_slots slots counts = map counted counts ++ replicate (slots - length counts) fresh

-- at opening all lists are empty
abbrev pub opened : ℕ → List ℕ → State
opened slots counts = unlisted (counted_slots slots counts)

-- the slot goes where it is due
abbrev pub sent : Due → State → ℕ → State
sent Nothing s x = s
sent Zero s x = record s { zeros = s.zeros ++ x ∷ [] }
sent Root s x = record s { roots = s.roots ++ x ∷ [] }

-- one reference to the slot less, and the slot where it is then due
abbrev pub decremented : State → ℕ → State
decremented s x = sent (due_of (slot_at s x)) (with_slot s x (lessened (slot_at s x))) x

-- the first root is taken out, and is unbuffered
abbrev pub without_root : List ℕ → State → State
without_root [] s = s
without_root (x ∷ xs) s = record (with_slot s x (record (slot_at s x) { buffered = false })) { roots = xs }

-- the last set is taken out: its members are unbuffered, and go to the work list
abbrev pub without_last_set : State → State
without_last_set s = record s { slots = map (out_of_set (length s.sets - 1)) s.slots; sets = earlier_sets s.sets; work = s.work ++ last_set s.sets }

-- the last set is given up: its members are, and go to the work list
abbrev pub given_up : State → State
given_up s = record s { slots = map (given_up_slot (length s.sets - 1)) s.slots; sets = earlier_sets s.sets; work = s.work ++ last_set s.sets }

-- the slot joins the last set
abbrev pub with_joined : State → ℕ → State
with_joined s x = record (with_slot s x (record (slot_at s x) { buffered = true; set = Some (length s.sets - 1) })) { sets = with_member s.sets x }

-- no slot of the last set stands in the work list
abbrev pub IsLastSetNew : State → Type 0
IsLastSetNew s = (x : ℕ) → times x s.work + times x (last_set s.sets) ≤ 1
