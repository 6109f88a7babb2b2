-- The order of every run.
use Rattle.rec_core.specs.Core.{sight}
use Rattle.rec_core.proofs.BareRuns.{end_kept}
use Rattle.rec_order.specs.Naming.{naming_of}
use Rattle.rec_order.proofs.Legal.{run_legal}
use Rattle.rec_order.proofs.Unfreed.{there_are_unfreed}
use Rattle.rec_order.proofs.Runs.{moves_made}
use Rattle.rec_order.proofs.laws.runs_have_a_legal_order.Goals as goal

pub returns-clause-order : goal.returns-clause-order
returns-clause-order c = λ w heap number unfreed moves journals config run idle stands are fit lines. run_legal w heap number unfreed moves journals (end_kept w config run) idle stands are fit lines

pub returns-clause-unfreed : goal.returns-clause-unfreed
returns-clause-unfreed c = λ w heap number stands. there_are_unfreed heap (sight w) number stands

pub returns-clause-made : goal.returns-clause-made
returns-clause-made c = λ w heap number moves. moves_made (naming_of heap number) w moves
