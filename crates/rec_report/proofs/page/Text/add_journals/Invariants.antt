-- The answers to the mutators so far stand behind what there was.
use Rattle.std.proofs.Common.{◌≡◌, ◌++◌, take, map}
use Rattle.rec_report.specs.Text.{lines_by_mutator}
use Rattle.rec_report.proofs.page.Text.add_journals.Given as goal

abbrev pub invariant-loop-i : goal.invariant-loop-i
invariant-loop-i l = l.self ≡ l.fn.self ++ lines_by_mutator (map (λ journal. journal.lines) (take l.i l.journals))
