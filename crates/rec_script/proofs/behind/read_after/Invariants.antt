-- The lines so far are what the draft has spelled.
use Rattle.std.proofs.Common.{length}
use Rattle.rec_script.proofs.Behinds.{IsReadBehind}
use Rattle.rec_script.proofs.behind.read_after.Given as goal

abbrev pub invariant-loop-rest : goal.invariant-loop-rest
invariant-loop-rest l = IsReadBehind (record { slots = l.slots; fields = l.fields; registers = l.registers; mutators = l.mutators }) l.bytes l.rest l.draft l.number

abbrev pub decreases-loop-rest : goal.decreases-loop-rest
decreases-loop-rest l = length l.rest
