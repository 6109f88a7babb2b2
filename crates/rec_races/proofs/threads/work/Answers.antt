-- The contract of `work`: the mutators go through their tasks, and the collector makes its turns beside them.
use denote.Param.Send.{IsSend, sendable}
use Rattle.std.proofs.Crossing.{crosses}
use Rattle.rec_table.proofs.Sends.{collector_send}
use Rattle.rec_table.proofs.heap.Heap.TheSendSync as heaps
use Rattle.rec_races.specs.contracts.crew.Limits as limits
use Rattle.rec_races.proofs.threads.work.Goals as goal

limits_send : IsSend limits.the_row
limits_send = search sendable depth 10

pub join-collector-requires-send-F : goal.join-collector-requires-send-F
join-collector-requires-send-F g c κs within = search (sendable, crosses, collector_send, limits_send, heaps.the_sync) depth 30

pub join-collector-requires-send-A : goal.join-collector-requires-send-A
join-collector-requires-send-A g c κs within = search (sendable, collector_send) depth 20
