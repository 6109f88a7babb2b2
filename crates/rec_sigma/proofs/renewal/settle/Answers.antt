-- The contract of `settle`: gives a slot that is in no buffer its place.
use Rattle.std.proofs.Common.{refl}
use Rattle.std.proofs.lemmas.List.{get_or-set_same, set-set}
use Rattle.rec_counts.specs.Slot.{absent}
use Rattle.rec_sigma.proofs.renewal.settle.Goals as goal

pub returns-in-Root : goal.returns-in-Root
returns-in-Root c = rw (c.in-Root.is, c.push_root.ensures, c.set_colour-in-Root.ensures, get_or-set_same c.args.counts.now.slots c.args.slot _ absent c.requires.in_range, set-set) refl
