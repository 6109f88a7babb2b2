-- A journal has one verdict.
use Rattle.rec_audit.proofs.Uniqueness.{one_verdict}
use Rattle.rec_audit.proofs.laws.verdicts_are_unique.Goals as goal

pub returns : goal.returns
returns c = one_verdict
