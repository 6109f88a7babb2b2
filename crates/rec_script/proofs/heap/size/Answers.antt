-- The contract of `size`: a number from 1 to the greatest one.
use Rattle.std.proofs.Common.{arith}
use Rattle.rec_script.proofs.Numerals.{same_number}
use Rattle.rec_script.proofs.heap.size.Goals as goal

pub returns-then-number-eq0-clause-none : goal.returns-then-number-eq0-clause-none
returns-then-number-eq0-clause-none c = λ n some few e. omega (arith, same_number c.args.word.now n c.in_ok-number.number (omega arith, e) c.in_ok-number.ensures)

pub returns-then-number-most-clause-none : goal.returns-then-number-most-clause-none
returns-then-number-most-clause-none c = λ n some few e. omega (arith, same_number c.args.word.now n c.in_ok-number.number (omega arith, e) c.in_ok-number.ensures)
