-- The numeral is that of an object's number, or there is none.
use Rattle.std.proofs.Common.{arith}
use Rattle.rec_image.proofs.Pieces.{only_number, other_number}
use Rattle.rec_image.proofs.piece.numbered.Goals as goal

pub returns-then-number-eq0-clause-only : goal.returns-then-number-eq0-clause-only
returns-then-number-eq0-clause-only c = other_number c.args.slots c.args.bytes.now c.in_ok-number.rest.now c.in_ok-number.number c.requires c.in_ok-number.ensures.found (λ n lt e. omega arith)

pub returns-then-number-slots-clause-only : goal.returns-then-number-slots-clause-only
returns-then-number-slots-clause-only c = other_number c.args.slots c.args.bytes.now c.in_ok-number.rest.now c.in_ok-number.number c.requires c.in_ok-number.ensures.found (λ n lt e. omega arith)

pub returns-clause-only : goal.returns-clause-only
returns-clause-only c = only_number c.args.slots c.args.bytes.now c.in_ok-number.rest.now c.in_ok-number.number c.requires c.in_ok-number.ensures.found c.if-number-eq0.false
