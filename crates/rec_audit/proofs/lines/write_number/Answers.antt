-- The space stands before the digits, which end with the buffer.
use Rattle.std.proofs.Common.{◌≡◌, ◌+◌, ◌-◌, ◌<◌, ◌≤◌, ◌++◌, ◌∷◌, ◌∙◌, ap, append-nil, drop, length, decimal, arith}
use Rattle.std.proofs.lemmas.List.{drop-set, drop_all}
use Rattle.rec_audit.proofs.Written.{twenty_digits}
use Rattle.rec_audit.proofs.lines.write_number.Goals as goal

pub returns-clause-written : goal.returns-clause-written
returns-clause-written c =
    let short : length (decimal c.args.number) ≤ 20 = twenty_digits c.args.number c.ranges.number.fits in
    let back : c.write_digits-digits.result - 1 + 1 ≡ c.write_digits-digits.result = omega arith in
    let within : c.write_digits-digits.result - 1 < length c.write_digits-digits.new.buf = omega arith in
    drop-set c.write_digits-digits.new.buf (c.write_digits-digits.result - 1) 32 within
    ∙ ap (λ n. 32 ∷ drop n c.write_digits-digits.new.buf) back
    ∙ ap (λ rest. 32 ∷ rest) c.write_digits-digits.ensures.written
    ∙ ap (λ rest. 32 ∷ (decimal c.args.number ++ rest)) (drop_all 21 c.args.buffer.now (omega arith))
    ∙ ap (λ rest. 32 ∷ rest) (append-nil (decimal c.args.number))
