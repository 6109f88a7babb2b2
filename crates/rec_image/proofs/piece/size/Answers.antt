-- The numeral is of a number within the limit, or there is none.
use Rattle.std.proofs.Common.{arith}
use Rattle.rec_image.proofs.Pieces.{only_size, no_size}
use Rattle.rec_image.proofs.piece.size.Goals as goal

pub returns-in_err-rest-clause-only : goal.returns-in_err-rest-clause-only
returns-in_err-rest-clause-only c = rw c.from_residual-in_err-rest.ensures (no_size c.args.bytes.now c.in_ok-number.rest.now c.args.most c.args.end c.in_ok-number.number (omega arith) c.requires c.in_ok-number.ensures.found c.in_err-rest.ensures)

pub returns-then-number-eq0-clause-only : goal.returns-then-number-eq0-clause-only
returns-then-number-eq0-clause-only c = λ n t low high e.
    let same = only_size c.args.bytes.now c.in_ok-number.rest.now c.in_ok-rest.rest.now c.args.most c.args.end c.in_ok-number.number (omega arith) c.requires c.in_ok-number.ensures.found c.in_ok-rest.ensures n t low high e in
    omega (arith, same.0)

pub returns-then-number-most-clause-only : goal.returns-then-number-most-clause-only
returns-then-number-most-clause-only c = λ n t low high e.
    let same = only_size c.args.bytes.now c.in_ok-number.rest.now c.in_ok-rest.rest.now c.args.most c.args.end c.in_ok-number.number (omega arith) c.requires c.in_ok-number.ensures.found c.in_ok-rest.ensures n t low high e in
    omega (arith, same.0)

pub returns-clause-only : goal.returns-clause-only
returns-clause-only c = only_size c.args.bytes.now c.in_ok-number.rest.now c.in_ok-rest.rest.now c.args.most c.args.end c.in_ok-number.number (omega arith) c.requires c.in_ok-number.ensures.found c.in_ok-rest.ensures
