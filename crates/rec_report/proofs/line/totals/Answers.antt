-- The pieces of the format one after another.
use Rattle.std.proofs.Common.{◌≡◌, ◌∙◌, ◌++◌, ℕ, List, ap, append_assoc, codes, decimal}
use Rattle.std.specs.Prelude.{string_bytes}
use Rattle.std.proofs.lemmas.Result.{IfOk-weaker}
use Rattle.rec_report.specs.Text.{line_feed}
use Rattle.rec_report.proofs.line.totals.Goals as goal

pub returns : goal.returns
returns c =
    let line : ℕ → List ℕ = λ freed. codes "made " ++ decimal c.args.made ++ codes " refused " ++ decimal c.args.refused ++ codes " freed " ++ decimal freed ++ line_feed in
    IfOk-weaker c.format.result _ _ (λ text h. let e : string_bytes text ≡ line c.freed-freed.result = simp append_assoc h in e ∙ ap line c.freed-freed.ensures) c.format.ensures.ok
