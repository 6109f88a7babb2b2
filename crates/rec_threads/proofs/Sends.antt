-- What workers take along, share and hand back may cross threads.
use denote.Builtin.{bool}
use denote.Ref.{NamedLft}
use denote.Struct.Declared.{shape, fields}
use denote.Param.Send.{AllSend, AllSync, IsSend, IsSync, sendable, recorded_send, recorded_sync, struct_send, struct_sync, view_sync}
use Rattle.std.proofs.Crossing.{crosses}
use Rattle.std.specs.contracts.sync.OnceLock as lock
use Rattle.std.proofs.sync.OnceLock.TheSendSync as once
use Rattle.std.proofs.sync.OnceToken.TheSendSync as token
use Rattle.rec_model.specs.contracts.command.Cmd as cmd
use Rattle.rec_script.specs.contracts.script.Script as script
use Rattle.rec_table.specs.contracts.heap.Heap as heap
use Rattle.rec_table.proofs.heap.Heap.TheSendSync as heaps
use Rattle.rec_table.proofs.Sends.{mutator_send}
use Rattle.rec_world.proofs.Sends.{journal_send}
use Rattle.rec_threads.specs.contracts.duty.Report as report
use Rattle.rec_threads.specs.contracts.signals.Signals as signals
use Rattle.rec_threads.specs.contracts.worker.Worker as worker

pub worker_send : IsSend worker.the_field.row
worker_send = search (mutator_send, journal_send, sendable) depth 20

each : (a : NamedLft) → AllSend (fields (report.the_type a))
each a = (worker_send, (token.the_send a bool, (search sendable depth 20, tt)))

pub report_send : (a : NamedLft) → IsSend (report.the_row a)
report_send a = recorded_send _ _ _ (report.the_type a).to_one (struct_send (shape (report.the_type a)) (each a))

cmds_sync : IsSync cmd.the_field.row
cmds_sync = search sendable depth 20

each_read : AllSync (fields script.TheInside.the_type)
each_read = search (cmds_sync, sendable, crosses) depth 40

pub script_sync : IsSync script.the_row
script_sync = view_sync _ _ _ _ _ (recorded_sync _ _ _ (script.TheInside.the_type).to_one (struct_sync (shape script.TheInside.the_type) each_read))

lock_sync : IsSync (lock.the_row bool)
lock_sync = once.the_sync bool (search sendable depth 20) (search sendable depth 20)

each_shared : AllSync (fields signals.the_type)
each_shared = (search (sendable, crosses) depth 20, (lock_sync, (search (sendable, crosses) depth 20, (search (sendable, crosses) depth 20, (search (sendable, crosses) depth 20, tt)))))

pub signals_sync : IsSync signals.the_row
signals_sync = recorded_sync _ _ _ signals.the_type.to_one (struct_sync (shape signals.the_type) each_shared)

pub heap_sync : IsSync heap.the_row
heap_sync = heaps.the_sync
