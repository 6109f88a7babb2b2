-- The answers so far are counted on.
use Rattle.std.proofs.Common.{◌≡◌, ℕ, ◌+◌, ◌<◌, take, get_or}
use Rattle.rec_report.specs.Summary.{own_answers}
use Rattle.rec_report.proofs.tally.count_answers.Given as goal

abbrev pub invariant-loop-line : goal.invariant-loop-line
invariant-loop-line l = (at : ℕ) → at < 11 → get_or l.counts at 0 ≡ get_or l.fn.counts at 0 + own_answers at (take l.line-index l.journal)
