-- The digits at the front are the numeral, where their number is small enough.
use Rattle.std.proofs.Common.{◌≡◌, ◌<◌, ◌+◌, ◌-◌, ◌*◌, ℕ, ◌++◌, length, get_or, take, drop, refl, sym, ap, subst, ◌∙◌, below_more, arith}
use Rattle.std.specs.Char.{is_ascii_digit}
use Rattle.std.specs.Fmt.{decimal}
use Rattle.rec_io.proofs.Numerals.{digit_range, found_numeral, no_first_digit, one_more, too_large}
use Rattle.rec_io.proofs.front.long_numeral.Goals as goal

pub returns-then-i-eq0-clause-none : goal.returns-then-i-eq0-clause-none
returns-then-i-eq0-clause-none c = λ n t small ends is.
    no_first_digit c.args.bytes.now (ap (λ (k : ℕ). is_ascii_digit (get_or c.args.bytes.now k 0)) (sym c.if-i-eq0.true)
    ∙ sym c.is_ascii_digit.ensures.value ∙ c.if-not-is_ascii_digit.true) n t (omega (arith, small, c.ranges.most.fits)) is

pub returns-else-i-eq0-clause-found : goal.returns-else-i-eq0-clause-found
returns-else-i-eq0-clause-found c =
    found_numeral c.args.bytes.now c.loop-i.i c.loop-i.value (omega arith) (omega arith) c.requires.front c.loop-i.invariant.digits
    c.loop-i.invariant.number (omega (arith, c.loop-i.invariant.small, c.ranges.most.fits))

pub returns-then-value-most-clause-none : goal.returns-then-value-most-clause-none
returns-then-value-most-clause-none c =
    let digit = digit_range (get_or c.args.bytes.now c.loop-i.i 0) (sym c.is_ascii_digit.ensures.value ∙ c.if-not-is_ascii_digit.false) in
    too_large c.args.bytes.now c.loop-i.i c.loop-i.value (get_or c.args.bytes.now c.loop-i.i 0) c.args.most c.loop-i-test.true
    (below_more _ _ c.loop-i.invariant.digits digit) c.loop-i.invariant.number refl (omega arith) c.ranges.most.fits

pub returns-then-digit-most-clause-none : goal.returns-then-digit-most-clause-none
returns-then-digit-most-clause-none c =
    let digit = digit_range (get_or c.args.bytes.now c.loop-i.i 0) (sym c.is_ascii_digit.ensures.value ∙ c.if-not-is_ascii_digit.false) in
    too_large c.args.bytes.now c.loop-i.i c.loop-i.value (get_or c.args.bytes.now c.loop-i.i 0) c.args.most c.loop-i-test.true
    (below_more _ _ c.loop-i.invariant.digits digit) c.loop-i.invariant.number refl (omega (arith, c.from-digit.ensures)) c.ranges.most.fits

pub loop-i-preserved : goal.loop-i-preserved
loop-i-preserved c =
    let digit = digit_range (get_or c.args.bytes.now c.loop-i.i 0) (sym c.is_ascii_digit.ensures.value ∙ c.if-not-is_ascii_digit.false) in
    let more = one_more c.args.bytes.now c.loop-i.i c.loop-i.value (get_or c.args.bytes.now c.loop-i.i 0) c.loop-i-test.true
    c.loop-i.invariant.number refl digit in
    record {
      digits = below_more _ _ c.loop-i.invariant.digits digit;
      number = ap (λ (n : ℕ). 10 * c.loop-i.value + n) c.from-digit.ensures ∙ more;
      small = omega arith;
    }

pub returns-clause-found : goal.returns-clause-found
returns-clause-found c =
    let end : c.loop-i.i ≡ length c.args.bytes.now = omega arith in
    subst (λ (k : ℕ). c.args.bytes.now ≡ decimal c.loop-i.value ++ take (length c.args.bytes.now - k) (drop k c.args.bytes.now)) end
    (found_numeral c.args.bytes.now c.loop-i.i c.loop-i.value (omega (arith, c.requires.some)) (omega arith) c.requires.front
    c.loop-i.invariant.digits c.loop-i.invariant.number (omega (arith, c.loop-i.invariant.small, c.ranges.most.fits)))
