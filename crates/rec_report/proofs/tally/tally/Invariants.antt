-- The answers of the journals so far are counted, each of which has few.
use Rattle.std.proofs.Common.{◌≡◌, ℕ, ◌<◌, ◌≤◌, ◌*◌, ◌^◌, take, map, get_or}
use Rattle.rec_report.specs.Summary.{answers_at}
use Rattle.rec_report.proofs.tally.tally.Given as goal

abbrev pub invariant-loop-journal : goal.invariant-loop-journal
invariant-loop-journal l = record {
  few : (at : ℕ) → at < 11 → get_or l.counts at 0 ≤ l.journal-index * 2 ^ 58;
  counted : (at : ℕ) → at < 11 → get_or l.counts at 0 ≡ answers_at (map (λ journal. journal.lines) (take l.journal-index l.journals)) at;
}
