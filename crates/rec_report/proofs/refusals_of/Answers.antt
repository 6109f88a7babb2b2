-- The next journal's refusals are added, and they are few.
use Rattle.std.proofs.Common.{arith}
use Rattle.rec_report.proofs.AnswerLines.{refusals_step}
use Rattle.rec_report.proofs.refusals_of.Goals as goal

pub loop-journal-preserved : goal.loop-journal-preserved
loop-journal-preserved c = record {
  few = omega arith;
  value = refusals_step _ _ _ _ _ _ c.loop-journal-test.true c.loop-journal.invariant.value c.own_refusals-refused.ensures.value c.lines.ensures c.journal-item.is;
}
