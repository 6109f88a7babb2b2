-- The pointers so far are to the heap, and there is room for the others.
use Rattle.std.proofs.Common.{◌≡◌, ◌-◌, ◌≤◌, All, length}
use Rattle.std.specs.Arc.{arc_value}
use Rattle.std.specs.Vec.{vec_capacity}
use Rattle.recycler_c.proofs.running.copies.Given as goal

abbrev pub invariant-loop-heaps : goal.invariant-loop-heaps
invariant-loop-heaps l = record {
  room : l.count ≤ vec_capacity l.heaps;
  few : length l.heaps.items ≤ l.count;
  same : All (λ other. arc_value other ≡ arc_value l.heap) l.heaps.items;
}

abbrev pub decreases-loop-heaps : goal.decreases-loop-heaps
decreases-loop-heaps l = l.count - length l.heaps.items
