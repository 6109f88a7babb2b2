-- A buffer may cross threads.
use denote.Param.Send.{IsSend, sendable}
use Rattle.std.proofs.Crossing.{crosses}
use Rattle.rec_log.specs.contracts.buffer.Buffer as buffer

pub buffer_send : IsSend buffer.the_row
buffer_send = search (sendable, crosses) depth 20
