-- What is promised of the crew stays where a refusal is told without it.
use Rattle.rec_run.proofs.Endings.{if_ok_or}
use Rattle.rec_run.proofs.driving.drive_crew.Goals as goal

pub returns-clause-done : goal.returns-clause-done
returns-clause-done g c = rw c.or.ensures (if_ok_or c.drive.result _ _ c.drive.ensures.done)

pub returns-clause-mutators : goal.returns-clause-mutators
returns-clause-mutators g c = rw c.or.ensures (if_ok_or c.drive.result _ _ c.drive.ensures.mutators)

pub returns-clause-collector : goal.returns-clause-collector
returns-clause-collector g c = rw c.or.ensures (if_ok_or c.drive.result _ _ c.drive.ensures.collector)

pub returns-clause-collected : goal.returns-clause-collected
returns-clause-collected g c = rw c.or.ensures (if_ok_or c.drive.result _ _ c.drive.ensures.collected)
