-- Which slots the zeros are.
use Rattle.std.specs.Prelude.{◌≡◌, ◌≢◌, ◌↔◌, ℕ, ◌<◌, false}
use Rattle.rec_counts.specs.declared.colour.Colour.TheVariants.{Orange}
use Rattle.rec_counts.specs.Counts.{State, slot_at}
use Rattle.rec_counts.specs.Lists.{times}

-- each slot that is not released has a count
abbrev pub AreCounted : State → Type 0
AreCounted s = (x : ℕ) → (slot_at s x).released ≡ false → 0 < (slot_at s x).count

-- the zeros are exactly the slots without a count that are neither released nor Orange
abbrev pub AreTheZeros : State → Type 0
AreTheZeros s = (x : ℕ) → 0 < times x s.zeros ↔ (((slot_at s x).released ≡ false) × ((slot_at s x).count ≡ 0) × ((slot_at s x).colour ≢ Orange))
