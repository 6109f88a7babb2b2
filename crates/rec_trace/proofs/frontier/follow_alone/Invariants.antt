-- What the fields of the frontier's slots so far lead to has joined the list.
use Rattle.std.proofs.Common.{◌≡◌, ◌-◌, drop, take}
use Rattle.rec_model.specs.Numbering.{joined}
use Rattle.rec_trace.specs.Children.{all_children}
use Rattle.rec_trace.proofs.frontier.follow_alone.Given as goal

abbrev pub invariant-loop-i : goal.invariant-loop-i
invariant-loop-i l = record {
  slots : l.found.slots ≡ l.fn.found.slots;
  list : l.found.list ≡ joined l.fn.found.list (all_children l.fields.words.now l.fields.each (take (l.i - l.first) (drop l.first l.fn.found.list)));
}
