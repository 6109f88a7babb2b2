-- The mutators so far are home, and their handles vacant.
use Rattle.std.proofs.Common.{◌≡◌, ℕ, ◌<◌, ◌≤◌, Some, length, slice_index_or, vec_capacity}
use Rattle.rec_table.specs.Views.{MutatorView}
use Rattle.recycler_c.specs.Standing.{held_at, mutates_in}
use Rattle.recycler_c.specs.declared.end.End.TheVariants as ends
use Rattle.recycler_c.specs.declared.end.Mutating.{Mutating}
use Rattle.recycler_c.specs.declared.handle.Handle.{Handle}
use Rattle.recycler_c.proofs.seating.gather.Given as goal

abbrev pub invariant-loop-k : goal.invariant-loop-k
invariant-loop-k l = record {
  many : length l.home.items ≡ l.k;
  capacity : vec_capacity l.home ≡ vec_capacity l.fn.home;
  home : (k : ℕ) (d : Handle) (e : MutatorView) (m : Mutating) → k < l.k → mutates_in (held_at l.fn.handles k d) ≡ Some m → slice_index_or l.home.items k e ≡ m.mutator;
  vacant : (k : ℕ) (d : Handle) → k < l.k → held_at l.handles k d ≡ Some ends.Vacant;
  others : (k : ℕ) (d : Handle) → l.k ≤ k → held_at l.handles k d ≡ held_at l.fn.handles k d;
}
