-- The contract of `mutate_all`: each mutator goes through its task on a thread of its own.
use denote.Param.Send.{sendable}
use Rattle.rec_table.proofs.Sends.{mutator_send}
use Rattle.rec_races.proofs.threads.mutate_all.Goals as goal

pub for_each_mut-requires-send-T : goal.for_each_mut-requires-send-T
for_each_mut-requires-send-T g c κs within = search (sendable, mutator_send) depth 20
