-- The loops of `read`: the script that the bytes spell.
use Rattle.std.proofs.Common.{length}
use Rattle.rec_script.proofs.Endings.{IsReadTo}
use Rattle.rec_script.proofs.reading.read.Given as goal

abbrev pub invariant-loop-rest : goal.invariant-loop-rest
invariant-loop-rest l = IsReadTo l.bytes l.rest l.draft l.number

abbrev pub decreases-loop-rest : goal.decreases-loop-rest
decreases-loop-rest l = length l.rest
