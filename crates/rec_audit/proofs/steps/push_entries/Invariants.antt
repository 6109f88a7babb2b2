-- The lines so far, behind what there was.
use Rattle.std.proofs.Common.{◌≡◌, ◌++◌, take, map}
use Rattle.rec_audit.specs.Journal.{entry_line}
use Rattle.rec_audit.specs.Lines.{text_of}
use Rattle.rec_audit.proofs.steps.push_entries.Given as goal

abbrev pub invariant-loop-entry : goal.invariant-loop-entry
invariant-loop-entry l = l.text.items ≡ l.fn.text.items ++ text_of (map (entry_line l.mutator) (take l.entry-index l.entries))
