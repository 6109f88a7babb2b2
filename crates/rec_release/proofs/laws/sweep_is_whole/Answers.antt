-- The contract of `sweep_is_whole`: a sweep frees the headers of the free list from its front, one for each word that it is given.
use Rattle.rec_release.proofs.Sweeping.{whole_sweep}
use Rattle.rec_release.proofs.laws.sweep_is_whole.Goals as goal

pub returns : goal.returns
returns c = whole_sweep
