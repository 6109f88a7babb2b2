-- The contract of `cycle_is_whole`: whatever words it is given, the freeing of a set exchanges each field of each member once and in order, takes one off the count of each target that came out, releases the members and no others, and lists them in the end.
use Rattle.rec_release.proofs.Freeing.{whole_freeing}
use Rattle.rec_release.proofs.laws.cycle_is_whole.Goals as goal

pub returns : goal.returns
returns c = whole_freeing
