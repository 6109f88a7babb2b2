-- What is held is in reach.
use Rattle.rec_model.proofs.Consequences.{registers_in_reach, writes_in_reach}
use Rattle.rec_model.proofs.laws.later_epochs_stay_in_reach.Goals as goal

pub returns-clause-registers : goal.returns-clause-registers
returns-clause-registers c = registers_in_reach

pub returns-clause-writes : goal.returns-clause-writes
returns-clause-writes c = writes_in_reach
