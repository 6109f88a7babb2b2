-- There is one numbering, and the rows follow from it.
use Rattle.rec_model.proofs.Listed.{one_listing}
use Rattle.rec_model.proofs.laws.listing_is_unique.Goals as goal

pub returns : goal.returns
returns c = one_listing
