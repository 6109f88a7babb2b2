-- The loops of `open_row`: a buffer for each mutator, with room for so many entries, and this frame as its snapshot.
use Rattle.std.proofs.Common.{◌≡◌, replicate}
use Rattle.rec_collector.proofs.Common.{retired}
use Rattle.rec_collector.proofs.buffers.open_row.Given as goal

abbrev pub invariant-loop : goal.invariant-loop
invariant-loop l = l.row.items ≡ replicate l.counter (retired l.frame l.capacity)
