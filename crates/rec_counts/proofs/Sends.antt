-- The counts may cross threads, and be shared by them.
use denote.Param.Send.{IsSend, IsSync, sendable}
use Rattle.std.proofs.Crossing.{crosses}
use Rattle.rec_counts.specs.contracts.slot.Slot as slot
use Rattle.rec_counts.specs.contracts.queue.Queue as queue
use Rattle.rec_counts.specs.contracts.row.Row as row
use Rattle.rec_counts.specs.contracts.cycle_buffer.CycleBuffer as sets
use Rattle.rec_counts.specs.contracts.touched.Touched as touched
use Rattle.rec_counts.specs.contracts.counts.Counts as counts

slot_send : IsSend slot.the_field.row
slot_send = search sendable depth 20

slot_sync : IsSync slot.the_field.row
slot_sync = search sendable depth 20

queue_send : IsSend queue.the_field.row
queue_send = search (sendable, crosses) depth 20

queue_sync : IsSync queue.the_field.row
queue_sync = search (sendable, crosses) depth 20

row_send : IsSend row.the_field.row
row_send = search (sendable, crosses) depth 20

row_sync : IsSync row.the_field.row
row_sync = search (sendable, crosses) depth 20

sets_send : IsSend sets.the_field.row
sets_send = search (row_send, sendable) depth 20

sets_sync : IsSync sets.the_field.row
sets_sync = search (row_sync, sendable) depth 20

touched_send : IsSend touched.the_field.row
touched_send = search (row_send, sendable, crosses) depth 20

touched_sync : IsSync touched.the_field.row
touched_sync = search (row_sync, sendable, crosses) depth 20

pub counts_send : IsSend counts.the_row
counts_send = search (slot_send, queue_send, sets_send, touched_send, sendable, crosses) depth 20

pub counts_sync : IsSync counts.the_row
counts_sync = search (slot_sync, queue_sync, sets_sync, touched_sync, sendable, crosses) depth 20
