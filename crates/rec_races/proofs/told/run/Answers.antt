-- The contract of `run`: the collector turns and tells beside the mutators and the listener.
use denote.Param.Send.{sendable}
use Rattle.rec_table.proofs.heap.Heap.TheSendSync as heaps
use Rattle.rec_races.proofs.told.Sends.{shared_sync, tells_send}
use Rattle.rec_races.proofs.told.run.Goals as goal

pub join-tells-requires-send-F : goal.join-tells-requires-send-F
join-tells-requires-send-F g c κs within = search (sendable, tells_send, shared_sync, heaps.the_sync) depth 20

pub join-tells-requires-send-A : goal.join-tells-requires-send-A
join-tells-requires-send-A g c κs within = search (sendable, tells_send) depth 10
