-- What counting a reference leaves as it was.
use Rattle.std.specs.Prelude.{◌≡◌, ℕ, ◌<◌, ◌≤◌, false, length}
use Rattle.rec_counts.specs.Counts.{State, slot_at}
use Rattle.rec_counts.specs.Lists.{times}

-- the sets and all lists but the roots and the zeros stay, and of each slot its cyclic count, its set, and whether it is released
pub record KeepsRest (s t : State) : Type 0 where
  pub slots : length t.slots ≡ length s.slots
  pub sets : t.sets ≡ s.sets
  pub marked : t.marked ≡ s.marked
  pub work : t.work ≡ s.work
  pub free : t.free ≡ s.free
  pub released : (x : ℕ) → (slot_at t x).released ≡ (slot_at s x).released
  pub cyclic : (x : ℕ) → (slot_at t x).cyclic ≡ (slot_at s x).cyclic
  pub set : (x : ℕ) → (slot_at t x).set ≡ (slot_at s x).set

-- the slots of the zeros have no count, and are not released; each stands there once
pub record AreZeros (s : State) : Type 0 where
  pub once : (x : ℕ) → times x s.zeros ≤ 1
  pub none : (x : ℕ) → 0 < times x s.zeros → (slot_at s x).count ≡ 0
  pub unreleased : (x : ℕ) → 0 < times x s.zeros → (slot_at s x).released ≡ false

-- each slot that has no count and is not released stands in the zeros
abbrev pub AllZeros : State → Type 0
AllZeros s = (x : ℕ) → (slot_at s x).released ≡ false → (slot_at s x).count ≡ 0 → 0 < times x s.zeros
