-- The ledger covers a batch.
use Rattle.rec_model.proofs.Ledgers.{batch_covered}
use Rattle.rec_model.proofs.CollectorMoves.{unnamed_uncounted}
use Rattle.rec_model.proofs.Consequences.{counts_bounded}
use Rattle.rec_model.proofs.laws.batches_are_covered.Goals as goal

pub returns-clause-covered : goal.returns-clause-covered
returns-clause-covered c = λ w i node. batch_covered w node i.epochs i.ledger i.late

pub returns-clause-named : goal.returns-clause-named
returns-clause-named c = unnamed_uncounted

pub returns-clause-bounded : goal.returns-clause-bounded
returns-clause-bounded c = counts_bounded
