-- The contract of `preparation_names_places`: a preparation names the loading of a field of the heap, while its counts are as it left them.
use Rattle.rec_sigma.proofs.Bounds.{names_place}
use Rattle.rec_sigma.proofs.laws.preparation_names_places.Goals as goal

pub returns : goal.returns
returns c = names_place
