-- Steps that keep their order have a journal in form.
use Rattle.std.proofs.Common.{ap, ◌∙◌}
use Rattle.rec_audit.specs.Keeping.{Place}
use Rattle.rec_audit.specs.Runs.{heap_for}
use Rattle.rec_audit.proofs.Forming.{in_form, stands}
use Rattle.rec_audit.proofs.Runs.{are_numbers, run_keeps}
use Rattle.rec_audit.proofs.run_laws.journals_of_runs_are_in_form.Goals as goal

pub returns-clause-stand : goal.returns-clause-stand
returns-clause-stand c = λ config shown end is shows. stands (heap_for config) shown (are_numbers config is) (run_keeps config shown end is shows).keep

pub returns-clause-whole : goal.returns-clause-whole
returns-clause-whole c = λ config shown end is shows idle. in_form (heap_for config) shown (are_numbers config is) (run_keeps config shown end is shows).keep (ap (λ (at : Place). at.working) (run_keeps config shown end is shows).ends ∙ idle)
