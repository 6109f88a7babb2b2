-- The contract of `walk_is_whole`: a walk from the first member passes the places of the list's fields, each once and in order: so many of them as it takes steps, or all where it takes more.
use Rattle.rec_word.proofs.Walks.{whole_walk}
use Rattle.rec_word.proofs.laws.walk_is_whole.Goals as goal

pub returns : goal.returns
returns c = whole_walk
