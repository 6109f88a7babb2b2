-- The line by its parts.
use Rattle.recycler_watch.specs.Seen.{seen}
use Rattle.recycler_watch.proofs.Lines.{slots_whole, whole_parts}
use Rattle.recycler_watch.proofs.tell.whole_line.Goals as goal

pub returns : goal.returns
returns c = whole_parts c.args.number (seen c.args.is.now) _ _ c.in_ok-format.ensures.ok (slots_whole _ _ c.args.is.now.slots.items c.deref.ensures.value c.in_ok-others_of.ensures)
