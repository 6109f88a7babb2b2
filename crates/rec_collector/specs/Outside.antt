-- The outside counts of the members of sets that are prepared and not tested yet.
use Rattle.std.specs.Prelude.{◌≡◌, ℕ, ◌-◌, ◌≤◌, List, Some, map}
use Rattle.std.specs.List.{concat}
use Rattle.rec_word.specs.Place.{places_of}
use Rattle.rec_counts.specs.declared.colour.Colour.TheVariants.{Orange}
use Rattle.rec_counts.specs.Counts.{State, slot_at}
use Rattle.rec_word.specs.Load.{Load, place_loaded}
use Rattle.rec_sigma.specs.Prepared.{outside}
use Rattle.rec_collector.specs.declared.phase.Phase.{Phase}
use Rattle.rec_collector.specs.declared.phase.Phase.TheVariants.{Trying, Preparing}

-- how many references the slot has lost since
abbrev pub lost : (before s : State) → (x : ℕ) → ℕ
lost before s x = (slot_at before x).count - (slot_at s x).count

-- sets are prepared, and wait for their tests or are tested
abbrev pub HasSets : Phase → Type 0
HasSets (Trying trial) = ⊥
HasSets (Preparing prep) = ⊥
HasSets _ = Unit {0}

-- The member is as preparation left it, but for the references that were lowered since: it has no more than then, and its cyclic count
-- is its outside count then, of which each one lowered since takes one more off, not below zero.
pub record IsOutside (before s : State) (loads : List Load) (number x : ℕ) : Type 0 where
  pub member : (slot_at before x).set ≡ Some number
  pub fewer : (slot_at s x).count ≤ (slot_at before x).count
  pub cyclic : (slot_at s x).cyclic ≡ outside before number loads x - lost before s x

-- The sets were prepared from the counts `before`, and each field of each of their members was loaded for it once. So it is of each
-- member that is Orange still.
pub record AreOutside (fields : ℕ) (s : State) : Type 0 where
  pub before : State
  pub loads : List Load
  pub places : map (place_loaded fields) loads ≡ places_of fields (concat before.sets)
  pub members : (number x : ℕ) → (slot_at s x).set ≡ Some number → (slot_at s x).colour ≡ Orange → IsOutside before s loads number x
