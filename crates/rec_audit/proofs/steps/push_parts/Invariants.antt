-- The parts so far, behind what there was.
use Rattle.std.proofs.Common.{◌≡◌, ◌++◌, take}
use Rattle.rec_audit.specs.Journal.{parts_lines}
use Rattle.rec_audit.specs.Lines.{text_of}
use Rattle.rec_audit.proofs.steps.push_parts.Given as goal

abbrev pub invariant-loop-i : goal.invariant-loop-i
invariant-loop-i l = l.text.items ≡ l.fn.text.items ++ text_of (parts_lines (take l.i l.buffers))
