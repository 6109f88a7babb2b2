-- The members of a refused set get their places one after another.
use Rattle.std.specs.Prelude.{ℕ, Option, List, [], ◌∷◌, ◌++◌, slice_get}
use Rattle.rec_counts.specs.Counts.{State, slot_at, with_slot, without_last_set}
use Rattle.rec_counts.specs.Groups.{last_set}
use Rattle.rec_sigma.specs.declared.fate.Fate.{Fate}
use Rattle.rec_sigma.specs.declared.fate.Fate.TheVariants.{Free, Zero, Root, Plain}
use Rattle.rec_sigma.specs.Refurbish.{coloured, fate_at}

-- a slot that is in no buffer gets its place
abbrev pub settled : Fate → State → ℕ → State
settled Free s x = record s { free = s.free ++ x ∷ [] }
settled Zero s x = record (with_slot s x (coloured Zero (slot_at s x))) { zeros = s.zeros ++ x ∷ [] }
settled Root s x = record (with_slot s x (coloured Root (slot_at s x))) { roots = s.roots ++ x ∷ [] }
settled Plain s x = with_slot s x (coloured Plain (slot_at s x))

-- these slots get their places, in order
abbrev pub settled_all : (first : Option ℕ) → List ℕ → State → State
settled_all first [] s = s
settled_all first (x ∷ xs) s = settled_all first xs (settled (fate_at s first x) s x)

-- the last set is taken out, and its members get their places, in order
unfoldable pub refurbished_of : State → State
refurbished_of s = settled_all (slice_get (last_set s.sets) 0) (last_set s.sets) (record (without_last_set s) { work = [] })
