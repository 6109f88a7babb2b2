-- The loops of `clear_all`: clears each of these buffers.
use Rattle.std.proofs.Common.{◌≡◌}
use Rattle.rec_collector.proofs.Rows.{cleared_to}
use Rattle.rec_collector.proofs.buffers.clear_all.Given as goal

abbrev pub invariant-loop-buffer : goal.invariant-loop-buffer
invariant-loop-buffer l = l.buffers ≡ cleared_to l.fn.buffers l.buffer-index
