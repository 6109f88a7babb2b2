-- The contract of `release_is_whole`: whatever words it is given, and whether it lowers orange targets or not, a release exchanges each field of each slot that it releases once and in order, takes one off the count of each target that came out, releases none but zeros, and lists an emptied slot exactly where it is in no buffer.
use Rattle.rec_release.proofs.Runs.{whole_release}
use Rattle.rec_release.proofs.laws.release_is_whole.Goals as goal

pub returns : goal.returns
returns c = whole_release
