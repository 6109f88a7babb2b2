-- The answers of the turns so far stand behind what there was, and each mutator's next line is the number of its turns.
use Rattle.std.proofs.Common.{◌≡◌, ◌++◌, ◌+◌, ◌<◌, ℕ, take, map, length, get_or}
use Rattle.std.specs.List.{enumerate_from}
use Rattle.rec_model.specs.Numbering.{times}
use Rattle.rec_report.specs.Text.{turn_line}
use Rattle.rec_report.proofs.page.Text.add_turns.Given as goal

abbrev pub invariant-loop-t : goal.invariant-loop-t
invariant-loop-t l = record {
  text : l.self ≡ l.fn.self ++ map (λ p. turn_line (map (λ journal. journal.lines) l.journals) p.1 (times p.1 (take p.0 l.order))) (enumerate_from 0 (take l.t-index l.order));
  mutators : length l.next.items ≡ length l.journals;
  turns : (k : ℕ) → k < length l.journals → get_or l.next.items k 0 ≡ times (k + 1) (take l.t-index l.order);
}
