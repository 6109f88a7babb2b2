-- Each part of the accounts is kept by each kind of move.
use Rattle.rec_model.proofs.Beginning.{beginning_accounted, opening_begins}
use Rattle.rec_model.proofs.Moving.{move_accounted}
use Rattle.rec_model.proofs.laws.moves_keep_accounts.Goals as goal

pub returns-clause-there : goal.returns-clause-there
returns-clause-there c = opening_begins

pub returns-clause-begun : goal.returns-clause-begun
returns-clause-begun c = beginning_accounted

pub returns-clause-moved : goal.returns-clause-moved
returns-clause-moved c = λ before after m i. move_accounted m i
