-- Both ends of a ring for labels may cross threads.
use denote.Param.Send.{IsSend, sendable}
use Rattle.std.proofs.Crossing.{crosses}
use Rattle.rtrb.proofs.end.End.TheSendSync as rings
use Rattle.rec_notice.specs.contracts.listener.Listener as listener
use Rattle.rec_notice.specs.contracts.ring_tube.RingTube as tube
use Rattle.rec_notice.specs.contracts.teller.Teller as teller

pub tube_send : IsSend tube.the_row
tube_send = search (rings.the_send, sendable, crosses) depth 20

pub teller_send : IsSend (teller.the_row tube.the_row)
teller_send = search (tube_send, sendable, crosses) depth 20

pub listener_send : IsSend listener.the_row
listener_send = search (rings.the_send, sendable, crosses) depth 20
