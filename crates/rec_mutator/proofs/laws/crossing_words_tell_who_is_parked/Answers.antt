-- The contract of `crossing_words_tell_who_is_parked`: the crossing word that a step of parking or unparking leaves tells of its mutator.
use Rattle.rec_mutator.proofs.Parked.{tells_parked}
use Rattle.rec_mutator.proofs.laws.crossing_words_tell_who_is_parked.Goals as goal

pub returns : goal.returns
returns c = tells_parked
