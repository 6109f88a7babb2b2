-- The contract of `tell_less`: a reference less.
use Rattle.std.proofs.Common.{◌<◌, length}
use Rattle.rec_counts.proofs.Tells.{tells_taken}
use Rattle.rec_counts.proofs.telling.tell_less.Goals as goal

pub returns-in-Some : goal.returns-in-Some
returns-in-Some c =
    let l : c.in-Some.slot < length c.args.slots.now = rw c.in-Some.is at c.requires.in_range in
    rw (c.in-Some.is, c.take.ensures.marked, c.take.ensures.counted) (tells_taken c.args.slots.now c.args.touched.now c.in-Some.slot l)
