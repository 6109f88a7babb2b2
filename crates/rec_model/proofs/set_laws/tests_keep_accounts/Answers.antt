-- What is given up meanwhile was out of reach before the batch.
use Rattle.rec_model.proofs.Testing.{batch_testing, move_testing, set_accounted}
use Rattle.rec_model.proofs.set_laws.tests_keep_accounts.Goals as goal

pub returns-clause-begun : goal.returns-clause-begun
returns-clause-begun c = batch_testing

pub returns-clause-moved : goal.returns-clause-moved
returns-clause-moved c = λ before after u member move among i t. move_testing move among i t

pub returns-clause-given_up : goal.returns-clause-given_up
returns-clause-given_up c = set_accounted
