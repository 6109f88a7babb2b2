-- The images of the slots are the numbering of the heap, and its rows are theirs.
use Rattle.rec_model.proofs.Listed.{listing_carried}
use Rattle.rec_model.proofs.laws.listing_stands.Goals as goal

pub returns : goal.returns
returns c = listing_carried
