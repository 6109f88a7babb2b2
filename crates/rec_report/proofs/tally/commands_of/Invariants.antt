-- The commands of the journals so far, each of which has few.
use Rattle.std.proofs.Common.{◌≡◌, ◌≤◌, ◌*◌, ◌^◌, take, map}
use Rattle.rec_report.specs.Summary.{commands_of}
use Rattle.rec_report.proofs.tally.commands_of.Given as goal

abbrev pub invariant-loop-journal : goal.invariant-loop-journal
invariant-loop-journal l = record {
  few : l.commands ≤ l.journal-index * 2 ^ 58;
  value : l.commands ≡ commands_of (map (λ journal. journal.lines) (take l.journal-index l.journals));
}
