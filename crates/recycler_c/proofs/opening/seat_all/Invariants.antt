-- The boxes that are left are for the first handles, and those behind them have theirs.
use Rattle.std.proofs.Common.{◌≡◌, ℕ, ◌<◌, ◌≤◌, All, None, Some, length}
use Rattle.recycler_c.specs.Standing.{held_at}
use Rattle.recycler_c.specs.declared.end.End.TheVariants as ends
use Rattle.recycler_c.specs.declared.handle.Handle.{Handle}
use Rattle.recycler_c.proofs.opening.seat_all.Given as goal

abbrev pub invariant-loop-seat : goal.invariant-loop-seat
invariant-loop-seat l = record {
  few : length l.seats.items ≤ length l.fn.seats.items;
  vacant : All (λ seat. seat.value ≡ ends.Vacant) l.seats.items;
  waiting : (k : ℕ) (d : Handle) → k < length l.seats.items → held_at l.handles k d ≡ None;
  seated : (k : ℕ) (d : Handle) → length l.seats.items ≤ k → k < length l.fn.seats.items → held_at l.handles k d ≡ Some ends.Vacant;
  others : (k : ℕ) (d : Handle) → length l.fn.seats.items ≤ k → k < length l.handles → held_at l.handles k d ≡ None;
}

abbrev pub decreases-loop-seat : goal.decreases-loop-seat
decreases-loop-seat l = length l.seats.items
