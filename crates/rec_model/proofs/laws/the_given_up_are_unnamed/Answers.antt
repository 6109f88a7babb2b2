-- What is named is neither free nor given up.
use Rattle.rec_model.proofs.Naming.{dead_out_of_reach}
use Rattle.rec_model.proofs.Consequences.{registers_name_the_taken, fields_name_the_taken, no_field_leads_to_the_free}
use Rattle.rec_model.proofs.Seen.{reached_taken}
use Rattle.rec_model.proofs.laws.the_given_up_are_unnamed.Goals as goal

pub returns-clause-pending : goal.returns-clause-pending
returns-clause-pending c = λ w i. i.unnamed

pub returns-clause-reach : goal.returns-clause-reach
returns-clause-reach c = λ w i epoch node from dead reached. dead_out_of_reach w epoch from i.unnamed node reached dead

pub returns-clause-registers : goal.returns-clause-registers
returns-clause-registers c = registers_name_the_taken

pub returns-clause-fields : goal.returns-clause-fields
returns-clause-fields c = fields_name_the_taken

pub returns-clause-slots : goal.returns-clause-slots
returns-clause-slots c = no_field_leads_to_the_free

pub returns-clause-reached : goal.returns-clause-reached
returns-clause-reached c = reached_taken
