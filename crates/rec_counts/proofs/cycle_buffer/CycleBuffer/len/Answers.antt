-- The contract of `CycleBuffer::len`: how many sets there are.
use Rattle.std.proofs.Common.{sym, ◌∙◌}
use Rattle.rec_counts.proofs.Parts as parts
use Rattle.rec_counts.proofs.cycle_buffer.CycleBuffer.len.Goals as goal

pub returns : goal.returns
returns c = rw (← c.self.view_is) (c.len.ensures ∙ sym (parts.length-parts c.self.inside.starts.list c.self.inside.members.list))
