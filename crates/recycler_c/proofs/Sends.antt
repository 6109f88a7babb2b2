-- What a handle holds may go to another thread, with its pointer to the heap.
use denote.Enum.Declared as enums
use denote.Struct.Declared.{shape, fields}
use denote.Param.Send.{AllSend, IsSend, sendable, view_send, recorded_send, struct_send, enum_send}
use Rattle.std.proofs.Crossing.{Arc-send, Vec-send, crosses}
use Rattle.rec_world.proofs.world.World.TheSendSync as worlds
use Rattle.rec_table.specs.contracts.heap.Heap as heap
use Rattle.rec_table.proofs.heap.Heap.TheSendSync as heaps
use Rattle.rec_table.proofs.Sends.{collector_send, mutator_send}
use Rattle.std.specs.contracts.option.Option as option
use Rattle.rec_notice.proofs.Sends.{teller_send}
use Rattle.rtrb.proofs.end.End.TheSendSync as rings
use Rattle.rec_notice.specs.contracts.listener.Listener as listener
use Rattle.rec_notice.specs.contracts.ring_tube.RingTube as tube
use Rattle.rec_notice.specs.contracts.teller.Teller as teller
use Rattle.recycler_c.specs.contracts.end.Collecting as collecting
use Rattle.recycler_c.specs.contracts.end.End as ends
use Rattle.recycler_c.specs.contracts.end.Mutating as mutating
use Rattle.recycler_c.specs.contracts.end.Resting as resting

-- the one field of a heap at rest may
each_resting : AllSend (fields resting.TheInside.the_type)
each_resting = (worlds.the_send, tt)

resting_send : IsSend resting.the_row
resting_send = view_send _ _ _ _ _ (recorded_send _ _ _ (resting.TheInside.the_type).to_one (struct_send (shape resting.TheInside.the_type) each_resting))

-- each field of a mutator's end may
each_mutating : AllSend (fields mutating.the_type)
each_mutating = (Arc-send heap.the_row heaps.the_send heaps.the_sync, (mutator_send, tt))

mutating_send : IsSend mutating.the_field.row
mutating_send = struct_send (shape mutating.the_type) each_mutating

-- each field of the collector's end may
each_collecting : AllSend (fields collecting.the_type)
each_collecting = (Arc-send heap.the_row heaps.the_send heaps.the_sync, (collector_send, (Vec-send _ mutator_send, (search sendable, tt))))

collecting_send : IsSend collecting.the_field.row
collecting_send = struct_send (shape collecting.the_type) each_collecting

-- who tells what is freed may, where notices were asked for
tells_send : IsSend (option.the_field (teller.the_row tube.the_row)).row
tells_send = search (teller_send, sendable) depth 20

-- and who hears it
hears_send : IsSend listener.the_field.row
hears_send = search (rings.the_send, sendable, crosses) depth 20

-- all five: nothing, a heap at rest, the collector of a running heap, a mutator of one, and who hears what is freed
pub end_send : IsSend ends.the_row
end_send = recorded_send (ends.the_field).row _ _ (ends.the_type).to_one (enum_send (enums.shape ends.the_type)
    (tt, ((resting_send, (tells_send, tt)), ((collecting_send, (tells_send, tt)), ((mutating_send, tt), ((hears_send, tt), tt))))))
