-- The numerals so far, behind what there was.
use Rattle.std.proofs.Common.{◌≡◌, ◌++◌, take}
use Rattle.rec_audit.specs.Lines.{numerals}
use Rattle.rec_audit.proofs.lines.push_slots.Given as goal

abbrev pub invariant-loop-slot : goal.invariant-loop-slot
invariant-loop-slot l = l.text.items ≡ l.fn.text.items ++ numerals (take l.slot-index l.slots)
