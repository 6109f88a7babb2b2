-- A clean journal is answered yes.
use Rattle.rec_audit.proofs.Sets.{answered}
use Rattle.rec_audit.proofs.laws.clean_journals_are_answered_yes.Goals as goal

pub returns : goal.returns
returns c = answered
