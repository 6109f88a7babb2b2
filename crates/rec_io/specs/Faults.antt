-- Counts of faults, and of calls.
use Rattle.std.specs.Prelude.{◌≡◌, ℕ, ◌+◌, ◌<◌, ◌⊎◌, min}

-- the greatest value of a count, that of a `u64`
abbrev pub last_count : ℕ
last_count = 18446744073709551615

-- a count after one more: it stays where it stands at its last value
abbrev pub counted_up : ℕ → ℕ
counted_up n = min (n + 1) last_count

-- a count rose: it is greater, or it stands at its last value
abbrev pub Rose : ℕ → ℕ → Type 0
Rose before after = (before < after) ⊎ (after ≡ last_count)
