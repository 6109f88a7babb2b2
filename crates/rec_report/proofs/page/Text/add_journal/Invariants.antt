-- The answers so far stand behind what there was.
use Rattle.std.proofs.Common.{◌≡◌, ◌++◌, take}
use Rattle.rec_report.specs.Text.{own_lines}
use Rattle.rec_report.proofs.page.Text.add_journal.Given as goal

abbrev pub invariant-loop-i : goal.invariant-loop-i
invariant-loop-i l = l.self ≡ l.fn.self ++ own_lines l.t (take l.i l.journal)
