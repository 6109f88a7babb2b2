-- Numerals at the front of a text: `decimal` spells a number, without leading zeros.
use Rattle.std.specs.Prelude.{◌≡◌, ℕ, false, List, slice_index}
use Rattle.std.specs.Char.{is_ascii_digit}

-- no digit stands at the front, so that a numeral in front of these bytes ends there
abbrev pub EndsNumeral : List ℕ → Type 0
EndsNumeral bytes = is_ascii_digit (slice_index bytes 0) ≡ false
