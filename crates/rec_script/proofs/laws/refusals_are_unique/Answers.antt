-- The contract of `refusals_are_unique`: a text is refused with one line and one kind.
use Rattle.rec_script.proofs.Uniqueness.{refused_once}
use Rattle.rec_script.proofs.laws.refusals_are_unique.Goals as goal

pub returns : goal.returns
returns c = refused_once
