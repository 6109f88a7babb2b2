-- The contract of `what_is_shown_was_done`: a batch, a set that passed both tests, and a collection that is complete.
use Rattle.rec_collector.proofs.ShownSteps.{shown_as_made}
use Rattle.rec_collector.proofs.laws.what_is_shown_was_done.Goals as goal

pub returns : goal.returns
returns c = λ p q word box op turn s kept given. shown_as_made p q word box op turn s kept given
