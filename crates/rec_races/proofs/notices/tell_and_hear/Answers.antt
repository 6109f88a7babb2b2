-- The contract of `tell_and_hear`: the collector tells on one thread, and the listener hears on another.
use denote.Param.Send.{sendable}
use Rattle.rec_table.proofs.heap.Heap.TheSendSync as heaps
use Rattle.rec_races.proofs.told.Sends.{tells_send}
use Rattle.rec_races.proofs.notices.tell_and_hear.Goals as goal

pub join-requires-send-F : goal.join-requires-send-F
join-requires-send-F g c κs within = search (sendable, tells_send, heaps.the_sync) depth 20

pub join-requires-send-A : goal.join-requires-send-A
join-requires-send-A g c κs within = search (sendable, tells_send) depth 20
