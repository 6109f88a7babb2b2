-- The pieces of the format one after another.
use Rattle.std.proofs.Common.{◌≡◌, ◌∙◌, ◌++◌, sym, ap, append_assoc, codes, decimal}
use Rattle.std.specs.Prelude.{string_bytes}
use Rattle.std.proofs.lemmas.Result.{IfOk-weaker}
use Rattle.rec_report.specs.Text.{row_head}
use Rattle.rec_report.proofs.line.row_head.Goals as goal

pub returns-then-leaf : goal.returns-then-leaf
returns-then-leaf c =
    IfOk-weaker c.format.result _ _ (λ text h.
    let e : string_bytes text ≡ codes "#" ++ decimal c.args.number ++ codes " leaf " ++ decimal c.args.label ++ codes " count " ++ decimal c.args.count = simp append_assoc h in
    e ∙ ap (λ leaf. row_head c.args.number leaf c.args.label c.args.count) (sym c.if-leaf.true)) c.format.ensures.ok

pub returns-else-leaf : goal.returns-else-leaf
returns-else-leaf c =
    IfOk-weaker c.format-else-leaf.result _ _ (λ text h.
    let e : string_bytes text ≡ codes "#" ++ decimal c.args.number ++ codes " label " ++ decimal c.args.label ++ codes " count " ++ decimal c.args.count = simp append_assoc h in
    e ∙ ap (λ leaf. row_head c.args.number leaf c.args.label c.args.count) (sym c.if-leaf.false)) c.format-else-leaf.ensures.ok
