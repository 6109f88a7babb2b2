-- The contract of `refusals_have_causes`: each refusal comes exactly where its cause is, and changes no register and no log.
use Rattle.rec_mutator.proofs.Refusals.{answer_cause}
use Rattle.rec_mutator.proofs.laws.refusals_have_causes.Goals as goal

pub returns : goal.returns
returns c = answer_cause
