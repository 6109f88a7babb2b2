-- The contract of `machine_parks_by_steps`: each step of parking and unparking follows one of the five rules.
use Rattle.rec_mutator.proofs.Passages.{passage_made}
use Rattle.rec_mutator.proofs.laws.machine_parks_by_steps.Goals as goal

pub returns : goal.returns
returns c = passage_made
