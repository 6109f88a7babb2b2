-- The machines of releasing, of freeing a set and of sweeping may cross threads, and be shared by them.
use denote.Param.Send.{IsSend, IsSync, sendable}
use Rattle.rec_release.specs.contracts.cycle_free.CycleFree as freeing
use Rattle.rec_release.specs.contracts.release.Release as release
use Rattle.rec_release.specs.contracts.sweep.Sweep as sweep

pub release_send : IsSend release.the_row
release_send = search sendable depth 40

pub release_sync : IsSync release.the_row
release_sync = search sendable depth 40

pub freeing_send : IsSend freeing.the_row
freeing_send = search sendable depth 40

pub freeing_sync : IsSync freeing.the_row
freeing_sync = search sendable depth 40

pub sweep_send : IsSend sweep.the_row
sweep_send = search sendable depth 20

pub sweep_sync : IsSync sweep.the_row
sweep_sync = search sendable depth 20
