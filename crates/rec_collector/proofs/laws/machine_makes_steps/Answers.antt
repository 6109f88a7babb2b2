-- The contract of `machine_makes_steps`: what comes next, what is learnt, what is answered and what is left in the mailbox is one of the steps of the collector, whatever the word found and whatever is in the mailbox, as long as the word is what a machine may be given.
use Rattle.rec_collector.proofs.Steps.{whole_made}
use Rattle.rec_collector.proofs.laws.machine_makes_steps.Goals as goal

pub returns : goal.returns
returns c = whole_made
