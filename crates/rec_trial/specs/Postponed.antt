-- A trial is postponed: candidate roots wait for a later one, and those that were released leave the root buffer.
use Rattle.std.proofs.Common.{zero, suc}
use Rattle.std.specs.Prelude.{◌≡◌, ℕ, ◌<◌, Bool, true, false, List, [], ◌∷◌, ◌++◌, length}
use Rattle.rec_counts.specs.Counts.{State, slot_at, with_slot, without_root}
use Rattle.rec_counts.specs.Lists.{times}

-- a released slot that left the root buffer goes to the free list, any other is the last root again
abbrev pub returned_if : (released : Bool) → State → ℕ → State
returned_if true s x = record s { free = s.free ++ x ∷ [] }
returned_if false s x = record (with_slot s x (record (slot_at s x) { buffered = true })) { roots = s.roots ++ x ∷ [] }

abbrev pub returned : State → ℕ → State
returned s x = returned_if (slot_at s x).released s x

-- the first root leaves the root buffer
abbrev pub rotated_by : (roots : List ℕ) → State → State
rotated_by [] s = s
rotated_by (x ∷ xs) s = returned (without_root (x ∷ xs) s) x

abbrev pub rotated : State → State
rotated s = rotated_by s.roots s

-- so many roots do, one after another
abbrev pub rotated_in : ℕ → State → State
rotated_in zero s = s
rotated_in (suc n) s = rotated_in n (rotated s)

-- each root does once
unfoldable pub postponed : State → State
postponed s = rotated_in (length s.roots) s

-- no released root is in the free list
abbrev pub AreUnlisted : State → Type 0
AreUnlisted s = (x : ℕ) → 0 < times x s.roots → (slot_at s x).released ≡ true → times x s.free ≡ 0
