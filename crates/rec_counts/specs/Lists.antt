-- How often a slot stands in a list.
use Rattle.std.specs.Prelude.{ℕ, ◌≤◌, ◌==◌, Bool, nat_lt, if◌then◌else◌, List, count_by}

-- 1 where it holds, else 0
abbrev pub one : Bool → ℕ
one b = if b then 1 else 0

-- how often x stands in the list
unfoldable pub times : ℕ → List ℕ → ℕ
times x xs = count_by (λ y. x == y) xs

-- each number stands in the list at most once, and none from n on does
abbrev pub EachOnce : ℕ → List ℕ → Type 0
EachOnce n xs = (x : ℕ) → times x xs ≤ one (nat_lt x n)
