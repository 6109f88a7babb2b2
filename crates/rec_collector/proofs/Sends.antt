-- The collector's machine may cross threads, and be shared by them.
use denote.Struct.Declared.{shape, fields}
use denote.Param.Send.{AllSend, IsSend, sendable, view_send, recorded_send, struct_send}
use Rattle.std.proofs.Crossing.{crosses}
use Rattle.rec_counts.proofs.Sends.{counts_send}
use Rattle.rec_release.proofs.Sends.{freeing_send, release_send, sweep_send}
use Rattle.rec_sigma.proofs.Sends.{prepare_send}
use Rattle.rec_trial.proofs.Sends.{trial_send}
use Rattle.rec_collector.specs.contracts.machine.Machine as machine
use Rattle.rec_collector.specs.contracts.parts.Parts as parts
use Rattle.rec_collector.specs.contracts.phase.Phase as phase

-- each field of the parts may
each_part : AllSend (fields parts.TheInside.the_type)
each_part = (search (counts_send, sendable) depth 20, (search sendable depth 20, (search sendable depth 20, (search sendable, (search sendable depth 20, (search sendable depth 20, tt))))))

parts_send : IsSend parts.the_row
parts_send = view_send _ _ _ _ _ (recorded_send _ _ _ (parts.TheInside.the_type).to_one (struct_send (shape parts.TheInside.the_type) each_part))

-- and each machine that a phase holds
phases : IsSend phase.the_field.row
phases = search (release_send, freeing_send, trial_send, prepare_send, sweep_send, sendable) depth 40

pub machine_send : IsSend machine.the_row
machine_send = search (parts_send, phases, sendable, crosses) depth 60
