-- The contract of `clear`: no slot is marked.
use Rattle.rec_audit.proofs.Marking.{none_marked}
use Rattle.rec_audit.proofs.reach.Marks.clear.Goals as goal

pub returns-clause-marking : goal.returns-clause-marking
returns-clause-marking c = none_marked _ _ (c.fill.ensures.items (λ y e. e)) c.clear.ensures.items
