-- The contract of `CycleBuffer::set`: the members of set `number`.
use Rattle.std.proofs.Common.{◌<◌, length, arith}
use Rattle.rec_counts.specs.Groups.{parts_at}
use Rattle.rec_counts.proofs.Parts.{length-parts}
use Rattle.rec_counts.proofs.cycle_buffer.CycleBuffer.set.Goals as goal

pub part-requires-clause-in_range : goal.part-requires-clause-in_range
part-requires-clause-in_range c =
    let few : c.args.number < length (parts_at c.self.inside.starts.list c.self.inside.members.list) = rw (← c.self.view_is) at c.requires in
    rw c.as_slice-2.ensures (omega (arith, length-parts c.self.inside.starts.list c.self.inside.members.list))
