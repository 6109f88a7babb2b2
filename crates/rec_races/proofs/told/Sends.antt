-- What the collector's thread of a race takes along, and what its threads share, may cross threads.
use denote.Struct.Declared.{shape, fields}
use denote.Param.Send.{AllSend, IsSend, IsSync, sendable, recorded_send, struct_send}
use Rattle.std.proofs.Crossing.{crosses}
use Rattle.rec_notice.proofs.Sends.{tube_send}
use Rattle.rec_notice.specs.contracts.ring_tube.RingTube as tube
use Rattle.rec_notice.specs.contracts.teller.Teller as teller
use Rattle.rec_table.proofs.Sends.{collector_send}
use Rattle.rec_races.specs.contracts.told.Shared as shared
use Rattle.rec_races.specs.contracts.told.Tells as tells

-- the sending end of a ring for labels, as a field of a struct
teller_field : IsSend (teller.the_field tube.the_row).row
teller_field = search (tube_send, sendable, crosses) depth 20

-- each field of what the collector's thread has
each_telling : AllSend (fields tells.the_type)
each_telling = (collector_send, (teller_field, tt))

pub tells_send : IsSend tells.the_row
tells_send = recorded_send _ _ _ (tells.the_type).to_one (struct_send (shape tells.the_type) each_telling)

pub shared_sync : IsSync shared.the_row
shared_sync = search (sendable, crosses) depth 30
