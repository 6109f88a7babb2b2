-- What a walk along references starts from, and where it leads.
use Rattle.std.specs.Prelude.{◌≡◌, ℕ, ◌<◌, Bool, true, false, not, List, [], length, map, filter, take, All, slice_index_or}
use Rattle.std.specs.List.{range_with_len}
use Rattle.rec_model.specs.Reach.{IsReached, is_in}
use Rattle.rec_audit.specs.declared.references.Edge.{Edge}
use Rattle.rec_audit.specs.States.{edges_at, without}

-- the slots that aren't taken
abbrev pub free_slots : List Bool → List ℕ
free_slots taken = filter (λ slot. not (slice_index_or taken slot false)) (range_with_len 0 (length taken))

-- where the references of a slot lead whose words a test doesn't find
abbrev pub live_in : (ℕ → Bool) → List (List Edge) → (slot : ℕ) → List ℕ
live_in dead edges slot = map (λ e. e.to) (without dead (edges_at edges slot))

-- all of them lead to slots below a number
abbrev pub AreWithin : (slots : ℕ) → List (List Edge) → Type 0
AreWithin slots edges = (slot : ℕ) → All (λ e. e.to < slots) (slice_index_or edges slot [])

-- lists of references that forgot some whose words a test finds, and no others
pub record ArePruned (dead : ℕ → Bool) (old new : List (List Edge)) : Type 0 where
  pub size : length new ≡ length old
  pub same : (slot : ℕ) → without dead (edges_at new slot) ≡ without dead (edges_at old slot)
  pub within : (slots : ℕ) → AreWithin slots old → AreWithin slots new

-- from so many slots at the front of a list, each step leads to a slot of the list
abbrev pub IsClosedTo : (count : ℕ) → List ℕ → (ℕ → List ℕ) → Type 0
IsClosedTo count slots children = (source slot : ℕ) → is_in source (take count slots) ≡ true → is_in slot (children source) ≡ true → is_in slot slots ≡ true

-- one of some slots is on a path from a root
pub record Reaches (roots : List ℕ) (children : ℕ → List ℕ) (slots : List ℕ) : Type 0 where
  pub member : ℕ
  pub listed : is_in member slots ≡ true
  pub reached : IsReached roots children member
