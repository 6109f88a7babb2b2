-- The next answer has the next number.
use Rattle.std.proofs.Common.{refl}
use Rattle.rec_report.proofs.AnswerLines.{journal_step}
use Rattle.rec_report.proofs.page.Text.add_journal.Goals as goal

pub loop-i-preserved : goal.loop-i-preserved
loop-i-preserved c = journal_step _ _ _ _ _ _ _ _ c.loop-i-test.true c.loop-i.invariant refl c.in_ok-add_answer.ensures
