-- No reference of the applied epoch names it, and so nothing reaches it.
use Rattle.rec_model.proofs.Consequences.{uncounted_gone}
use Rattle.rec_model.proofs.laws.the_uncounted_are_gone.Goals as goal

pub returns : goal.returns
returns c = uncounted_gone
