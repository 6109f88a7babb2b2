-- The boxes so far are vacant, and there is room for the others.
use Rattle.std.proofs.Common.{◌≡◌, ◌-◌, ◌≤◌, All, length}
use Rattle.std.specs.Vec.{vec_capacity}
use Rattle.recycler_c.specs.declared.end.End.TheVariants as ends
use Rattle.recycler_c.proofs.opening.make_seats.Given as goal

abbrev pub invariant-loop-alloc : goal.invariant-loop-alloc
invariant-loop-alloc l = record {
  room : l.count ≤ vec_capacity l.seats;
  few : length l.seats.items ≤ l.count;
  vacant : All (λ seat. seat.value ≡ ends.Vacant) l.seats.items;
}

abbrev pub decreases-loop-alloc : goal.decreases-loop-alloc
decreases-loop-alloc l = l.count - length l.seats.items
