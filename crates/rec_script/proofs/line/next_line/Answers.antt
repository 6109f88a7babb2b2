-- The contract of `next_line`: the first line, and the bytes after it.
use Rattle.std.proofs.Common.{◌≡◌, ◌<◌, ◌+◌, ◌∷◌, ℕ, List, length, take, drop, sym, ap, ◌∙◌, arith}
use Rattle.std.proofs.lemmas.Grind.{common_steps}
use Rattle.rec_script.specs.Lines.{without_cr, lines}
use Rattle.rec_script.proofs.Cuts.{line_and_more, last_line}
use Rattle.rec_script.proofs.line.next_line.Goals as goal

same : (bytes line end first more : List ℕ) (n m : ℕ) → lines bytes ≡ without_cr (take n bytes) ∷ lines (drop m bytes) → line ≡ without_cr first → first ≡ take n bytes → more ≡ drop m bytes → lines bytes ≡ line ∷ lines more
same bytes line end first more n m e line-is first-is more-is =
    e ∙ ap (λ (t : List ℕ). without_cr t ∷ lines (drop m bytes)) (sym first-is) ∙ ap (λ (t : List ℕ). t ∷ lines (drop m bytes)) (sym line-is) ∙ ap (λ (t : List ℕ). line ∷ lines t) (sym more-is)

pub returns-then-is_empty-clause-lines : goal.returns-then-is_empty-clause-lines
returns-then-is_empty-clause-lines c =
    let none : length c.split_at.result.1.now ≡ 0 = grind (arith, common_steps) in
    let whole : c.line_length-length.result ≡ length c.args.bytes.now = omega (arith, c.split_at.ensures.back_len) in
    same c.args.bytes.now c.without_cr-line.result.now c.split_at.result.1.now c.split_at.result.0.now c.split_at.result.1.now c.line_length-length.result c.line_length-length.result
    (last_line c.args.bytes.now c.line_length-length.result c.requires whole c.line_length-length.ensures.before) c.without_cr-line.ensures c.split_at.ensures.front c.split_at.ensures.back

pub returns-else-is_empty-clause-lines : goal.returns-else-is_empty-clause-lines
returns-else-is_empty-clause-lines c =
    let some : 0 < length c.split_at.result.1.now = grind (arith, common_steps) in
    let within : c.line_length-length.result < length c.args.bytes.now = omega (arith, c.split_at.ensures.back_len) in
    same c.args.bytes.now c.without_cr-line.result.now c.split_at.result.1.now c.split_at.result.0.now c.split_at-else-is_empty.result.1.now c.line_length-length.result (c.line_length-length.result + 1)
    (line_and_more c.args.bytes.now c.line_length-length.result within c.line_length-length.ensures.before (c.line_length-length.ensures.behind within)) c.without_cr-line.ensures c.split_at.ensures.front c.split_at-else-is_empty.ensures.back
