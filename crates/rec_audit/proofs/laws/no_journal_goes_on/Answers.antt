-- No journal in form goes on with a line that may not stand.
use Rattle.std.proofs.Common.{refl}
use Rattle.rec_audit.proofs.laws.no_journal_goes_on.Goals as goal

pub returns : goal.returns
returns c = λ lines more line shut in-form. shut (in-form.stand lines line more refl)
