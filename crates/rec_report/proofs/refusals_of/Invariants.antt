-- The refusals of the journals so far, each of which has few.
use Rattle.std.proofs.Common.{◌≡◌, ◌≤◌, ◌*◌, ◌^◌, take, map}
use Rattle.rec_report.specs.Text.{refusals}
use Rattle.rec_report.proofs.refusals_of.Given as goal

abbrev pub invariant-loop-journal : goal.invariant-loop-journal
invariant-loop-journal l = record {
  few : l.refused ≤ l.journal-index * 2 ^ 58;
  value : l.refused ≡ refusals (map (λ journal. journal.lines) (take l.journal-index l.journals));
}
