-- A number that is widened is the same number.
use Rattle.std.proofs.Common.{append_assoc}
use Rattle.recycler_watch.proofs.words.add_op.Goals as goal

pub returns-in-LookBox : goal.returns-in-LookBox
returns-in-LookBox c = rw c.in-LookBox.is (simp append_assoc (rw c.from.ensures at c.add_numbered-in-LookBox.ensures))

pub returns-in-FreeHeader : goal.returns-in-FreeHeader
returns-in-FreeHeader c = rw c.in-FreeHeader.is (simp append_assoc (rw c.from-in-FreeHeader.ensures at c.add_numbered-in-FreeHeader.ensures))
