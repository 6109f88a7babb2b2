-- The contract of `machines_stay_machines`: what every machine keeps holds after every step, whatever the word that the step finds and the buffer in the mailbox, as long as these are what a machine may be given.
use Rattle.rec_collector.proofs.Keeping.{machine_kept}
use Rattle.rec_collector.proofs.laws.machines_stay_machines.Goals as goal

pub returns : goal.returns
returns c = machine_kept
