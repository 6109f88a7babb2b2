-- The contract of `numeral`: a numeral at the front, with this byte behind it, and what is behind that.
use Rattle.std.proofs.Common.{get_or, sym, ◌∙◌}
use Rattle.rec_io.proofs.Numerals.{digit_range}
use Rattle.rec_script.proofs.Spacing.{short_front}
use Rattle.rec_script.proofs.spaced.numeral.Goals as goal

pub returns-then-second-end : goal.returns-then-second-end
returns-then-second-end c =
    short_front c.args.bytes.now c.from.result c.args.end c.in-len2-up.len_at_least (digit_range (get_or c.args.bytes.now 0 0) (sym c.is_ascii_digit.ensures.value ∙ c.if-not-is_ascii_digit.false)) c.from.ensures c.if-second-end.true
