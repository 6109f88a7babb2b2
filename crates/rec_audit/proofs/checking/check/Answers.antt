-- The contract of `check`: what is to be said of a journal.
use Rattle.rec_audit.specs.Verdicts.IsVerdict.{long}
use Rattle.rec_audit.proofs.checking.check.Goals as goal

pub returns-then-audit-gt-MOST_BYTES : goal.returns-then-audit-gt-MOST_BYTES
returns-then-audit-gt-MOST_BYTES c = long c.if-audit-gt-MOST_BYTES.true
