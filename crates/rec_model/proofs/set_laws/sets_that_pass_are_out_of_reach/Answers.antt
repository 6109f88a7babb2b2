-- Each reference to a member is from a member, and no member is a root.
use Rattle.rec_model.proofs.Sets.{passed_out_of_reach}
use Rattle.rec_model.proofs.set_laws.sets_that_pass_are_out_of_reach.Goals as goal

pub returns : goal.returns
returns c = λ w member seen i t node is reached. passed_out_of_reach w member seen i.ledger i.late t node reached is
