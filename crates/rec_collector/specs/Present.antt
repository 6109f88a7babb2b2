-- Which mutators have left, and which one a collection looks at next.
use Rattle.std.specs.Prelude.{◌≡◌, ℕ, ◌+◌, ◌-◌, ◌<◌, ◌≤◌, not, Bool, true, false, Option, List, length, drop, slice_index_or}
use Rattle.std.specs.Option.{option_map}
use Rattle.std.specs.List.{position}

-- a list tells of each mutator, numbered from 1, whether it has left
abbrev pub has_left : List Bool → (t : ℕ) → Bool
has_left left t = slice_index_or left (t - 1) false

-- the first mutator behind this one that hasn't left, if there is one; behind 0 are all
abbrev pub next_present : List Bool → (t : ℕ) → Option ℕ
next_present left t = option_map (λ passed. t + passed + 1) (position not (drop t left))

-- it is the first one behind `t` that hasn't left
pub record IsNextPresent (left : List Bool) (t next : ℕ) : Type 0 where
  pub behind : t < next
  pub there : next ≤ length left
  pub present : has_left left next ≡ false
  pub passed : (u : ℕ) → t < u → u < next → has_left left u ≡ true

-- every mutator behind this one has left
abbrev pub HaveLeft : List Bool → (t : ℕ) → Type 0
HaveLeft left t = (u : ℕ) → t < u → u ≤ length left → has_left left u ≡ true
