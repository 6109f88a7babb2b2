-- The point stands between the two numbers, and the word behind them.
use Rattle.std.proofs.Common.{◌≡◌, ◌+◌, ◌-◌, ◌<◌, ◌≤◌, ◌++◌, ◌∷◌, ◌∙◌, ap, append_assoc, drop, length, decimal, arith}
use Rattle.std.proofs.lemmas.List.{drop-set}
use Rattle.rec_report.proofs.Numbers.{twenty_digits}
use Rattle.rec_report.proofs.answer.write_answer.Goals as goal

pub returns-clause-line : goal.returns-clause-line
returns-clause-line c =
    let short : length (decimal c.args.i) ≤ 20 = twenty_digits c.args.i c.ranges.i.fits in
    let back : c.write_digits-point.result - 1 + 1 ≡ c.write_digits-point.result = omega arith in
    let within : c.write_digits-point.result - 1 < length c.write_digits-point.new.buf = omega arith in
    simp append_assoc (
    c.write_digits.ensures.written
    ∙ ap (λ rest. decimal c.args.t ++ rest) (drop-set c.write_digits-point.new.buf (c.write_digits-point.result - 1) 46 within)
    ∙ ap (λ n. decimal c.args.t ++ (46 ∷ drop n c.write_digits-point.new.buf)) back
    ∙ ap (λ rest. decimal c.args.t ++ (46 ∷ rest)) c.write_digits-point.ensures.written
    ∙ ap (λ rest. decimal c.args.t ++ (46 ∷ (decimal c.args.i ++ rest))) c.write_word-end.ensures.word)
