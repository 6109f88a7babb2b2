-- The contract of `clear_all`: clears each of these buffers.
use Rattle.std.proofs.Common.{List, get_or, set, ap, ◌∙◌}
use Rattle.rec_collector.proofs.Common.{Contents, cleared}
use Rattle.rec_collector.proofs.Rows.{cleared_more}
use Rattle.rec_collector.proofs.buffers.clear_all.Goals as goal

pub loop-buffer-preserved : goal.loop-buffer-preserved
loop-buffer-preserved c =
    ap (λ (b : Contents). set c.loop-buffer.buffers c.loop-buffer.buffer-index b) c.clear.ensures
    ∙ ap (λ (bs : List Contents). set bs c.loop-buffer.buffer-index (cleared (get_or bs c.loop-buffer.buffer-index c.buffer-item.result))) c.loop-buffer.invariant
    ∙ cleared_more c.args.buffers.now c.loop-buffer.buffer-index c.buffer-item.result c.loop-buffer-test.true
