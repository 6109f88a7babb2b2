-- The loop of `read_numbers`: what was read, and what any reading leaves.
use Rattle.std.proofs.Common.{◌≡◌, ◌++◌, length}
use Rattle.rec_audit.specs.Lines.{AreNumbers, numerals}
use Rattle.rec_audit.proofs.Texts.{LeavesTexts}
use Rattle.rec_audit.proofs.reading.read_numbers.Given as goal

abbrev pub invariant-loop-word : goal.invariant-loop-word
invariant-loop-word l = record {
  read : l.bytes ≡ numerals l.numbers.items ++ l.rest;
  only : LeavesTexts l.bytes l.rest;
  fit : AreNumbers l.numbers.items;
}

abbrev pub decreases-loop-word : goal.decreases-loop-word
decreases-loop-word l = length l.rest
