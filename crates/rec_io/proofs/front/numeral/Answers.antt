-- A numeral that begins with 0 is that digit alone.
use Rattle.std.proofs.Common.{◌≡◌, ◌<◌, ℕ, length, get_or, drop, take, refl, sym, ap, ◌∙◌, arith}
use Rattle.std.specs.Char.{is_ascii_digit}
use Rattle.rec_io.proofs.Numerals.{found_nought, no_bytes, no_nought, second_byte}
use Rattle.rec_io.proofs.front.numeral.Goals as goal

pub returns-in_default-clause-none : goal.returns-in_default-clause-none
returns-in_default-clause-none c = λ n t small ends is. no_bytes c.args.bytes.now (omega arith) n t
    (omega (arith, small, c.ranges.most.fits)) is

pub returns-then-is_ascii_digit-clause-none : goal.returns-then-is_ascii_digit-clause-none
returns-then-is_ascii_digit-clause-none c = λ n t small.
    no_nought c.args.bytes.now c.if-first-ne48.false (ap is_ascii_digit (sym (second_byte c.args.bytes.now))
    ∙ sym c.is_ascii_digit.ensures.value ∙ c.if-is_ascii_digit.true) n t (omega (arith, small, c.ranges.most.fits))

pub returns-clause-found : goal.returns-clause-found
returns-clause-found c = found_nought c.args.bytes.now (omega arith) c.if-first-ne48.false
