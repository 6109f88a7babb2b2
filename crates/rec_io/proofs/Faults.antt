-- On counts of faults that rise, for calls that make several reads or writes.
use Rattle.std.proofs.Common.{◌≡◌, ℕ, ◌≤◌, inl, inr, arith}
use Rattle.std.proofs.lemmas.Bool.{cases_lt}
use Rattle.rec_io.specs.Faults.{Rose, counted_up, last_count}

-- a count that rose has risen since any earlier time
pub rose_since : (earlier before after : ℕ) → earlier ≤ before → Rose before after → Rose earlier after
rose_since earlier before after rest rose =
    elim rose [ inl above ↦ inl (omega arith) | inr last ↦ inr last ]

-- a count after one more has risen
pub rose_counted : (before after : ℕ) → after ≡ counted_up before → Rose before after
rose_counted before after is =
    elim (cases_lt before last_count) [ inl below ↦ inl (omega arith) | inr last ↦ inr (omega arith) ]

-- and has not fallen
pub counted_above : (before after : ℕ) → before ≤ last_count → after ≡ counted_up before → before ≤ after
counted_above before after within is = omega arith

-- and is within its type
pub counted_within : (before after : ℕ) → after ≡ counted_up before → after ≤ last_count
counted_within before after is = omega arith

-- a count that is the same has not fallen
pub same_above : (before after : ℕ) → after ≡ before → before ≤ after
same_above before after is = omega arith
