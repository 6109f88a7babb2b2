-- What its buffers have of that epoch stands in those of the batch.
use Rattle.rec_audit.proofs.EpochTold.{epoch_told}
use Rattle.rec_audit.proofs.run_laws.blocks_of_runs_tell_their_epoch.Goals as goal

pub returns : goal.returns
returns c = epoch_told
