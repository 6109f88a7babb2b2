-- No line `end` begins so far.
use Rattle.std.proofs.Common.{◌+◌, ◌-◌, length}
use Rattle.rec_run.proofs.Cutting.{IsSought}
use Rattle.rec_run.proofs.resuming.image_length.Given as goal

abbrev pub invariant-loop-at : goal.invariant-loop-at
invariant-loop-at l = IsSought l.bytes l.at

abbrev pub decreases-loop-at : goal.decreases-loop-at
decreases-loop-at l = length l.bytes + 1 - l.at
