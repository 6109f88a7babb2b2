-- Every slot is offered to a trial: what becomes of the counts before it begins.
use Rattle.std.specs.Prelude.{◌≡◌, ℕ, Bool, true, false, not, List, [], ◌∷◌, ◌++◌, map, length}
use Rattle.std.specs.List.{filter, range_with_len}
use Rattle.rec_counts.specs.Colour.{is_green}
use Rattle.rec_counts.specs.Slot.{stays}
use Rattle.rec_counts.specs.declared.colour.Colour.TheVariants.{Purple}
use Rattle.rec_counts.specs.declared.slot.Slot.{Slot}
use Rattle.rec_counts.specs.Counts.{State, slot_at, with_slot}
use Rattle.rec_counts.specs.Rest.{KeepsRest}
use Rattle.rec_trial.specs.Still.{IsSeed}

abbrev pub offered_if : (kept_out : Bool) → Slot → Slot
offered_if true v = v
offered_if false v = record v { colour = Purple; buffered = true }

-- a slot that is neither released nor Green is Purple and buffered, any other stays
abbrev pub offered_slot : Slot → Slot
offered_slot v = offered_if (stays v) v

abbrev pub is_missing_if : (kept_out buffered : Bool) → Bool
is_missing_if true buffered = false
is_missing_if false buffered = not buffered

-- neither released nor Green, and in no buffer
abbrev pub is_missing : Slot → Bool
is_missing v = is_missing_if (stays v) v.buffered

-- the slots that are, in rising order
abbrev pub missing : State → List ℕ
missing s = filter (λ x. is_missing (slot_at s x)) (range_with_len 0 (length s.slots))

-- every slot that is neither released nor Green is Purple, and in the root buffer: those that are in no buffer come after the old roots
unfoldable pub offered : State → State
offered s = record s { slots = map offered_slot s.slots; roots = s.roots ++ missing s }

abbrev pub rooted_if : (missing : Bool) → State → ℕ → State
rooted_if true s x = record s { roots = s.roots ++ x ∷ [] }
rooted_if false s x = s

-- one slot is offered
abbrev pub offered_one : State → ℕ → State
offered_one s x = rooted_if (is_missing (slot_at s x)) (with_slot s x (offered_slot (slot_at s x))) x

-- every slot is offered, or none
abbrev pub offered_where : (offers : Bool) → State → State
offered_where true s = offered s
offered_where false s = s

-- offering changes no true count and releases nothing, and leaves all lists but the roots
pub record KeepsOffered (s t : State) : Type 0 where
  pub rest : KeepsRest s t
  pub counts : (x : ℕ) → (slot_at t x).count ≡ (slot_at s x).count
  pub zeros : t.zeros ≡ s.zeros

-- every slot that is neither released nor Green is a candidate root, and nothing else has changed
pub record AreOffered (s t : State) : Type 0 where
  pub seeds : (x : ℕ) → (slot_at s x).released ≡ false → is_green (slot_at s x).colour ≡ false → IsSeed t x
  pub green : (x : ℕ) → is_green (slot_at t x).colour ≡ is_green (slot_at s x).colour
  pub keeps : KeepsOffered s t
