-- A mutator's machine may cross threads.
use denote.Struct.Declared.{shape, fields}
use denote.Param.Send.{AllSend, IsSend, sendable, view_send, recorded_send, struct_send}
use Rattle.std.proofs.Crossing.{crosses}
use Rattle.rec_model.specs.contracts.command.Cmd as cmd
use Rattle.rec_model.specs.contracts.told.Told as told
use Rattle.rec_mutator.specs.contracts.machine.Machine as machine
use Rattle.rec_mutator.specs.contracts.phase.Phase as phase
use Rattle.rec_mutator.specs.contracts.work.Work as work
use Rattle.rec_mutator.specs.contracts.made.Made as made
use Rattle.rec_log.specs.contracts.buffer.Buffer as buffer
use Rattle.rec_log.specs.contracts.frame.Frame as frame

frames : IsSend frame.the_field.row
frames = search (sendable, crosses) depth 20

buffers : IsSend buffer.the_field.row
buffers = search (sendable, crosses) depth 20

pub cmds : IsSend cmd.the_field.row
cmds = search sendable depth 20

pub tolds : IsSend told.the_field.row
tolds = search sendable depth 20

works : IsSend work.the_field.row
works = search (cmds, sendable) depth 20

mades : IsSend made.the_field.row
mades = search (tolds, sendable) depth 20

phases : IsSend phase.the_field.row
phases = search (works, mades, sendable) depth 30

-- each of its fields may
each : AllSend (fields machine.TheInside.the_type)
each = (search sendable, (search sendable, (search sendable, (search sendable, (frames, (buffers, (search sendable, (phases, (search sendable, (search sendable, (search sendable, tt)))))))))))

pub machine_send : IsSend machine.the_row
machine_send = view_send _ _ _ _ _ (recorded_send _ _ _ (machine.TheInside.the_type).to_one (struct_send (shape machine.TheInside.the_type) each))
