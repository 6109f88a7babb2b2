-- The numerals so far, behind what there was.
use Rattle.std.proofs.Common.{◌≡◌, ◌++◌, take}
use Rattle.rec_audit.specs.Lines.{numerals}
use Rattle.rec_audit.proofs.lines.push_numbers.Given as goal

abbrev pub invariant-loop-number : goal.invariant-loop-number
invariant-loop-number l = l.text.items ≡ l.fn.text.items ++ numerals (take l.number-index l.numbers)
