-- The machine of a preparation may cross threads, and be shared by them.
use denote.Param.Send.{IsSend, IsSync, sendable}
use Rattle.rec_sigma.specs.contracts.prepare.Prep as prepare

pub prepare_send : IsSend prepare.the_row
prepare_send = search sendable depth 40

pub prepare_sync : IsSync prepare.the_row
prepare_sync = search sendable depth 40
