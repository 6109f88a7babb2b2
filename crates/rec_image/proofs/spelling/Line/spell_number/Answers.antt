-- A number of 32 bits has at most ten digits.
use Rattle.std.proofs.Common.{◌≡◌, ◌≤◌, ℕ, length, drop, ap, arith, length-drop, length-append}
use Rattle.std.specs.Fmt.{decimal}
use Rattle.rec_image.proofs.Digits.{ten_digits}
use Rattle.rec_image.proofs.spelling.Line.spell_number.Goals as goal

pub write_digits-self-inside-requires : goal.write_digits-self-inside-requires
write_digits-self-inside-requires c =
    let short : length (decimal c.from.result) ≤ 10 = ten_digits c.from.result (omega (arith, c.from.ensures, c.ranges.n.fits)) in
    let size : length (drop c.self.inside.start c.self.inside.bytes) ≡ length c.args.self.now = ap (length {A = ℕ}) c.self.view_is in
    (omega (arith, short, size, length-drop c.self.inside.start c.self.inside.bytes, c.self.told, c.requires, c.self.invariant), omega (arith, c.self.told, c.self.invariant))

pub returns-clause-short : goal.returns-clause-short
returns-clause-short c =
    let short : length (decimal c.from.result) ≤ 10 = ten_digits c.from.result (omega (arith, c.from.ensures, c.ranges.n.fits)) in
    let size : length (drop c.self.inside.start c.self.inside.bytes) ≡ length c.args.self.now = ap (length {A = ℕ}) c.self.view_is in
    omega (arith, short, size, ap (length {A = ℕ}) c.write_digits-self-inside.ensures.written, length-append (decimal c.from.result) (drop c.self.inside.start c.self.inside.bytes))
