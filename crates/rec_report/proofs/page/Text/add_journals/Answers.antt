-- The next mutator's answers stand behind those before it.
use Rattle.std.proofs.Common.{◌∙◌, ◌++◌, ◌+◌, ap}
use Rattle.rec_world.specs.Journal.{Notes}
use Rattle.rec_report.specs.Text.{own_lines}
use Rattle.rec_report.proofs.AnswerLines.{journals_step}
use Rattle.rec_report.proofs.page.Text.add_journals.Goals as goal

pub loop-i-preserved : goal.loop-i-preserved
loop-i-preserved c = journals_step _ _ _ _ _ c.index-journals-i.result c.loop-i-test.true c.loop-i.invariant (
    c.in_ok-add_journal.ensures ∙ ap (λ ls. c.loop-i.self ++ own_lines (c.loop-i.i + 1) ls) (c.lines.ensures ∙ ap (λ (one : Notes). one.lines) c.index-journals-i.is))
