-- The pieces of the format one after another.
use Rattle.std.proofs.Common.{append_assoc}
use Rattle.recycler_watch.proofs.words.add_return.Goals as goal

pub returns : goal.returns
returns c = simp append_assoc (rw c.batch.ensures at c.write.ensures.bytes)
