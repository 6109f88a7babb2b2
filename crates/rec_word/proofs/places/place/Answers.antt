-- The place returned is that of the arguments, and no other field has it.
use Rattle.rec_word.proofs.FieldPlaces.{one_place}
use Rattle.rec_word.proofs.places.place.Goals as goal

pub returns-clause-only : goal.returns-clause-only
returns-clause-only c = λ s f in_range same.
    one_place _ _ _ _ _ in_range c.requires (rw (c.from.ensures, c.from-2.ensures, c.from-3.ensures) at same)
