-- A journal may cross threads.
use denote.Struct.Declared.{shape, fields}
use denote.Param.Send.{AllSend, IsSend, sendable, view_send, recorded_send, struct_send}
use Rattle.std.proofs.Crossing.{crosses}
use Rattle.rec_model.specs.contracts.command.Cmd as cmd
use Rattle.rec_model.specs.contracts.told.Told as told
use Rattle.rec_world.specs.contracts.journal.Journal as journal
use Rattle.rec_mutator.proofs.Sends.{cmds, tolds}

-- each of its fields may
each : AllSend (fields journal.TheInside.the_type)
each = (search (cmds, tolds, sendable, crosses) depth 30, (search sendable, tt))

pub journal_send : IsSend journal.the_row
journal_send = view_send _ _ _ _ _ (recorded_send _ _ _ (journal.TheInside.the_type).to_one (struct_send (shape journal.TheInside.the_type) each))
