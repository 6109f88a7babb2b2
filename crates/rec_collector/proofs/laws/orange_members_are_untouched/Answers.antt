-- The contract of `orange_members_are_untouched`: a member of a prepared set that is Orange still was touched by nothing since its preparation.
use Rattle.rec_collector.proofs.Touched.{untouched}
use Rattle.rec_collector.proofs.laws.orange_members_are_untouched.Goals as goal

pub returns : goal.returns
returns c = untouched
