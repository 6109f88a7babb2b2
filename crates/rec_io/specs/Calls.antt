-- Which calls of a source or a sink in memory fail.
use Rattle.std.specs.Prelude.{ℕ, ◌+◌, List, Contains}

-- after this many calls, the next one fails: its number, from 1, is among those listed
abbrev pub NextFails : List ℕ → ℕ → Type 0
NextFails fails calls = Contains fails (calls + 1)
