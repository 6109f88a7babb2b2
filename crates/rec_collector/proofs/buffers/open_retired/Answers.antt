-- A new buffer is retired with a frame of its size.
use Rattle.std.proofs.Common.{None, length, sym, ap, ◌∙◌}
use Rattle.std.proofs.lemmas.List.{length-replicate}
use Rattle.rec_collector.proofs.Common.{Contents}
use Rattle.rec_collector.proofs.buffers.open_retired.Goals as goal

pub retire-requires : goal.retire-requires
retire-requires c = c.requires ∙ sym (ap (λ (b : Contents). length b.snapshot) c.in_ok-buffer.ensures ∙ length-replicate c.args.registers None)

pub returns : goal.returns
returns c = c.retire.ensures ∙ ap (λ (b : Contents). record b { snapshot = c.args.frame.now }) c.in_ok-buffer.ensures
