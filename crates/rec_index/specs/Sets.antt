-- Sets of numbers as words of 64 bits, and what one such level tells of another.
use Rattle.std.specs.Prelude.{◌≡◌, ℕ, ◌/◌, ◌%◌, ◌<◌, List, min, slice_index_or}
use Rattle.std.specs.Int.{bit_at}

-- 1 where the number is a member, else 0
abbrev pub bit : List ℕ → ℕ → ℕ
bit words i = bit_at (slice_index_or words (i / 64) 0) (i % 64)

-- the number is a member
abbrev pub Holds : List ℕ → ℕ → Type 0
Holds words i = bit words i ≡ 1

-- the lowest member of those in this word
pub record IsLowestIn (words : List ℕ) (word : ℕ) (i : ℕ) : Type 0 where
  pub there : i / 64 ≡ word
  pub holds : bit words i ≡ 1
  pub lower : (j : ℕ) → j / 64 ≡ word → j < i → bit words j ≡ 0

-- the lowest member
pub record IsLowest (words : List ℕ) (i : ℕ) : Type 0 where
  pub holds : bit words i ≡ 1
  pub lower : (j : ℕ) → j < i → bit words j ≡ 0

-- a level has just the words of another that aren't 0
abbrev pub Tells : (upper lower : List ℕ) → Type 0
Tells upper lower = (k : ℕ) → bit upper k ≡ min 1 (slice_index_or lower k 0)
