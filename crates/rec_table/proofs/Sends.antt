-- The ends of a running heap may cross threads. That threads may share the heap needs no lemma: it is made for each check.
use denote.Struct.Declared.{shape, fields}
use denote.Param.Send.{AllSend, IsSend, sendable, view_send, recorded_send, struct_send}
use Rattle.std.proofs.Crossing.{crosses}
use Rattle.std.specs.contracts.option.Option as option
use Rattle.atomic_table.specs.contracts.shared.Seat as seat
use Rattle.atomic_table.proofs.shared.Seat.TheSendSync as seats
use Rattle.rec_log.specs.contracts.buffer.Buffer as buffer
use Rattle.rec_log.proofs.Sends.{buffer_send}
use Rattle.rec_mutator.proofs.Sends as mutators
use Rattle.rec_collector.proofs.Sends as collectors
use Rattle.rec_table.specs.contracts.actor.Actor as actor
use Rattle.rec_table.specs.contracts.mutator.Mutator as mutator
use Rattle.rec_table.specs.contracts.collector.Collector as collector
use Rattle.rec_table.specs.contracts.views.View as view

mailbox_send : IsSend (option.the_row buffer.the_row)
mailbox_send = search (buffer_send, sendable) depth 20

seat_send : IsSend (seat.the_row (option.the_row buffer.the_row) view.the_row)
seat_send = seats.the_send _ _ mailbox_send

-- each field of a mutator's end may
each : AllSend (fields actor.TheInside.the_type)
each = (search (mutators.machine_send, sendable), (search (sendable, crosses), (seat_send, (search sendable, (search sendable, tt)))))

actor_send : IsSend actor.the_row
actor_send = view_send _ _ _ _ _ (recorded_send _ _ _ (actor.TheInside.the_type).to_one (struct_send (shape actor.TheInside.the_type) each))

pub mutator_send : IsSend mutator.the_row
mutator_send = search (actor_send, sendable)

-- each field of the collector's end may
each_gathered : AllSend (fields collector.TheInside.the_type)
each_gathered = (search (collectors.machine_send, sendable), (search (sendable, crosses), (seat_send, tt)))

pub collector_send : IsSend collector.the_row
collector_send = view_send _ _ _ _ _ (recorded_send _ _ _ (collector.TheInside.the_type).to_one (struct_send (shape collector.TheInside.the_type) each_gathered))
