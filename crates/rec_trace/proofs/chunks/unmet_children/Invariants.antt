-- What the fields of the slots so far lead to was added, without what is found already.
use Rattle.std.proofs.Common.{◌≡◌, take}
use Rattle.rec_trace.specs.Children.{all_children, unmet}
use Rattle.rec_trace.proofs.chunks.unmet_children.Given as goal

abbrev pub invariant-loop-slot : goal.invariant-loop-slot
invariant-loop-slot l = l.children.items ≡ unmet l.found.list (all_children l.fields.words.now l.fields.each (take l.slot-index l.chunk))
