-- The contract of `machine_makes_steps`: what comes next, what is learnt from the word found and from the mailbox that is taken, and what is left in the mailbox is one of the steps of a mutator.
use Rattle.rec_mutator.proofs.Steps.{whole_made}
use Rattle.rec_mutator.proofs.laws.machine_makes_steps.Goals as goal

pub returns : goal.returns
returns c = whole_made
