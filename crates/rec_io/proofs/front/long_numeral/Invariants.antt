-- The digits so far, and their number.
use Rattle.std.proofs.Common.{◌≡◌, ◌<◌, ◌≤◌, ℕ, get_or, take}
use Rattle.std.specs.Int.{IsInRange}
use Rattle.std.specs.Str.Parse.{digits_value}
use Rattle.rec_io.proofs.front.long_numeral.Given as goal

abbrev pub invariant-loop-i : goal.invariant-loop-i
invariant-loop-i l = record {
  digits : (k : ℕ) → k < l.i → IsInRange 48 57 (get_or l.bytes k 0);
  number : l.value ≡ digits_value 10 (take l.i l.bytes);
  small : l.value ≤ l.most;
}
