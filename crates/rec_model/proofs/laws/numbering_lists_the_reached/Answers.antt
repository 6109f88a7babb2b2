-- A numbering is closed under roots and children, and has no repeats.
use Rattle.rec_model.proofs.Numbered.{lists_reached, numbering_distinct}
use Rattle.rec_model.proofs.laws.numbering_lists_the_reached.Goals as goal

pub returns-clause-reached : goal.returns-clause-reached
returns-clause-reached c = lists_reached

pub returns-clause-distinct : goal.returns-clause-distinct
returns-clause-distinct c = numbering_distinct
