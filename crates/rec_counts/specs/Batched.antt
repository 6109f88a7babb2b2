-- What a batch makes of the counts.
use Rattle.std.specs.Prelude.{ℕ, ◌+◌, ◌-◌, Bool, true, false, nat_lt, List, ◌++◌, length, map, slice_index_or as item_at}
use Rattle.std.specs.List.{filter, range_with_len}
use Rattle.rec_counts.specs.declared.slot.Slot.{Slot}
use Rattle.rec_counts.specs.declared.slot.Due.{Due}
use Rattle.rec_counts.specs.declared.slot.Due.TheVariants.{Zero, Root}
use Rattle.rec_counts.specs.Counts.{State}
use Rattle.rec_counts.specs.Lists.{times}
use Rattle.rec_counts.specs.Slot.{absent, settled_due}
use Rattle.rec_counts.specs.Touched.{firsts, greened_if, mark_of, settled_at}

-- a slot that was born a leaf so often, has so many references more, and as many were taken off
abbrev pub counted_slot : (born added taken : ℕ) → Slot → Slot
counted_slot born added taken v = record (greened_if (nat_lt 0 born) v) { count = v.count + added - taken }

-- the slot of this number then, before its colour is settled
abbrev pub counted_at : List Slot → (born added : ℕ → ℕ) → (taken : List ℕ) → ℕ → Slot
counted_at slots born added taken x = counted_slot (born x) (added x) (times x taken) (item_at slots x absent)

-- and once it is: what something was taken off gets the colour that its count calls for, and what was only added to is in use
abbrev pub batched_at : List Slot → (born added : ℕ → ℕ) → (taken : List ℕ) → ℕ → Slot
batched_at slots born added taken x = settled_at (mark_of (nat_lt 0 (added x)) (nat_lt 0 (times x taken))) (counted_at slots born added taken x)

abbrev pub is_zero : Due → Bool
is_zero Zero = true
is_zero _ = false

abbrev pub is_root : Due → Bool
is_root Root = true
is_root _ = false

-- the slots then
abbrev pub batched_slots : List Slot → (born added : ℕ → ℕ) → (taken : List ℕ) → List Slot
batched_slots slots born added taken = map (batched_at slots born added taken) (range_with_len 0 (length slots))

-- the slots that go to the root buffer, and those that go to the zeros, in the order in which something was first taken off them
abbrev pub new_roots : List Slot → (born added : ℕ → ℕ) → (taken : List ℕ) → List ℕ
new_roots slots born added taken = filter (λ x. is_root (settled_due (counted_at slots born added taken x))) (firsts taken)

abbrev pub new_zeros : List Slot → (born added : ℕ → ℕ) → (taken : List ℕ) → List ℕ
new_zeros slots born added taken = filter (λ x. is_zero (settled_due (counted_at slots born added taken x))) (firsts taken)

-- A batch: how often each slot was born a leaf, how many references more it has, and the slots that one was taken off, in order. Each
-- slot is changed once.
abbrev pub batched : State → (born added : ℕ → ℕ) → (taken : List ℕ) → State
batched s born added taken = record s {
  slots = batched_slots s.slots born added taken;
  roots = s.roots ++ new_roots s.slots born added taken;
  zeros = s.zeros ++ new_zeros s.slots born added taken;
}
