-- The contract of `refusals_behind_are_unique`: mutators behind a heap are refused with one number and one kind.
use Rattle.rec_script.proofs.Uniqueness.{refused_behind_once}
use Rattle.rec_script.proofs.laws.refusals_behind_are_unique.Goals as goal

pub returns : goal.returns
returns c = refused_behind_once
