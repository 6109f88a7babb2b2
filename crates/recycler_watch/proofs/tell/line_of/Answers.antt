-- The line by its parts.
use Rattle.std.proofs.Common.{refl}
use Rattle.recycler_watch.specs.Seen.{seen}
use Rattle.recycler_watch.proofs.Lines.{line_parts, slots_told}
use Rattle.recycler_watch.proofs.tell.line_of.Goals as goal

pub returns : goal.returns
returns c = line_parts c.args.number c.args.made (seen c.args.was.now) (seen c.args.is.now) _ _ _ _ _ c.in_ok-asking.ensures.0 c.in_ok-asking.ensures.1 c.in_ok-asking.ensures.2 c.in_ok-says.ensures (slots_told _ (λ x y. refl) _ c.deref.result.now c.deref-2.result.now c.args.was.now.slots.items c.args.is.now.slots.items c.deref.ensures.value c.deref-2.ensures.value c.in_ok-slots.ensures)
