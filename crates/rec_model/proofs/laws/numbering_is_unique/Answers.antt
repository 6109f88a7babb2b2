-- Two numberings agree on each front.
use Rattle.rec_model.proofs.Numbered.{one_numbering}
use Rattle.rec_model.proofs.laws.numbering_is_unique.Goals as goal

pub returns : goal.returns
returns c = one_numbering
