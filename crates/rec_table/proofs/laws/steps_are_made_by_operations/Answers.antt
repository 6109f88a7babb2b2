-- Each step was made by one operation.
use Rattle.rec_table.proofs.Operations.{all_made}
use Rattle.rec_table.proofs.laws.steps_are_made_by_operations.Goals as goal

pub returns : goal.returns
returns c = all_made
