-- The line is that of the command in its journal.
use Rattle.std.proofs.Common.{◌∙◌, ◌++◌, ◌∷◌, [], sym, ap}
use Rattle.rec_report.proofs.AnswerLines.{own_line}
use Rattle.rec_report.proofs.page.Text.add_turn.Goals as goal

pub returns : goal.returns
returns c = c.in_ok-add_answer.ensures ∙ ap (λ line. c.args.self.now ++ line ∷ []) (sym (own_line c.args.t c.args.i c.args.journal.now _ c.requires))
