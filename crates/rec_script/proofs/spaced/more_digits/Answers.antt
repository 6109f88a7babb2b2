-- The contract of `more_digits`: the same, quicker where there are two digits.
use Rattle.std.proofs.Common.{◌≡◌, ◌+◌, ◌-◌, ◌*◌, get_or, sym, ◌∙◌, arith}
use Rattle.rec_io.proofs.Numerals.{digit_range}
use Rattle.rec_script.proofs.Spacing.{two_front}
use Rattle.rec_script.proofs.spaced.more_digits.Goals as goal

pub returns : goal.returns
returns c =
    let value : 10 * c.from.result + c.from-2.result ≡ 10 * (get_or c.args.bytes.now 0 0 - 48) + (get_or c.args.bytes.now 1 0 - 48) = omega (arith, c.from.ensures, c.from-2.ensures) in
    two_front c.args.bytes.now (10 * c.from.result + c.from-2.result) c.args.end c.in-len3-up.len_at_least
    (digit_range (get_or c.args.bytes.now 0 0) (sym c.is_ascii_digit.ensures.value ∙ c.if-not-is_ascii_digit.false))
    (digit_range (get_or c.args.bytes.now 1 0) (sym c.is_ascii_digit-2.ensures.value ∙ c.if-not-is_ascii_digit-2.false))
    c.requires value c.if-third-end.false
