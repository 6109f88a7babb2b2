-- The machine of a trial may cross threads, and be shared by them.
use denote.Param.Send.{IsSend, IsSync, sendable}
use Rattle.rec_trial.specs.contracts.trial.Trial as trial

pub trial_send : IsSend trial.the_row
trial_send = search sendable depth 40

pub trial_sync : IsSync trial.the_row
trial_sync = search sendable depth 40
