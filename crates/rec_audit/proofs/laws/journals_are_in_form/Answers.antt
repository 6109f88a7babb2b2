-- Journals of steps that keep what they have to are in form.
use Rattle.rec_audit.proofs.Forming.{in_form, stands}
use Rattle.rec_audit.proofs.laws.journals_are_in_form.Goals as goal

pub returns-clause-stand : goal.returns-clause-stand
returns-clause-stand c = stands

pub returns-clause-whole : goal.returns-clause-whole
returns-clause-whole c = in_form
