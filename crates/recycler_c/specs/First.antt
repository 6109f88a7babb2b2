-- The mutators of a running heap that are home.
use Rattle.std.specs.Prelude.{◌≡◌, ℕ, ◌+◌, ◌<◌, List, length, slice_index_or}
use Rattle.rec_table.specs.Views.{MutatorView, Started, IsMutatorOf}

-- they are the first mutators of this heap, in order of number
abbrev pub AreFirst : Started → List MutatorView → Type 0
AreFirst s ms = (k : ℕ) (d : MutatorView) → k < length ms → IsMutatorOf s (slice_index_or ms k d) × ((slice_index_or ms k d).number ≡ k + 1)
