-- The numerals so far, behind what there was.
use Rattle.std.proofs.Common.{◌≡◌, ◌++◌, take, map}
use Rattle.rec_audit.specs.Journal.{register_number}
use Rattle.rec_audit.specs.Lines.{numerals}
use Rattle.rec_audit.proofs.lines.push_registers.Given as goal

abbrev pub invariant-loop-register : goal.invariant-loop-register
invariant-loop-register l = l.text.items ≡ l.fn.text.items ++ numerals (map register_number (take l.register-index l.registers))
