-- The contract of `without_cr`: the bytes without the CR that may stand at their end.
use Rattle.std.proofs.Common.{sym, arith}
use Rattle.rec_script.proofs.Cuts.{with_cr, no_cr}
use Rattle.rec_script.proofs.line.without_cr.Goals as goal
use Rattle.rec_script.proofs.line.without_cr.Goals.{else-length-gt0-via-then-length-gt0+else-bytes-length-eq13, else-length-gt0-via-else-length-gt0}

pub returns-then-bytes-length-eq13 : goal.returns-then-bytes-length-eq13
returns-then-bytes-length-eq13 c = sym (with_cr c.args.bytes.now c.if-length-gt0.true c.if-bytes-length-eq13.true)

pub returns-else-length-gt0 : goal.returns-else-length-gt0
returns-else-length-gt0 c = elim c.else-length-gt0.branch [
  | else-length-gt0-via-then-length-gt0+else-bytes-length-eq13 w ↦ sym (no_cr c.args.bytes.now (λ some. w.if-bytes-length-eq13.false))
  | else-length-gt0-via-else-length-gt0 w ↦ sym (no_cr c.args.bytes.now (λ some. absurd (omega arith)))
]
