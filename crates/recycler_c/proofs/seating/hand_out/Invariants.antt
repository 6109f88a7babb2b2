-- The mutators that are home are the first, with as many pointers; the others are out.
use Rattle.std.proofs.Common.{◌≡◌, ℕ, ◌<◌, ◌≤◌, All, length, slice_index_or, vec_capacity}
use Rattle.std.specs.Arc.{arc_value}
use Rattle.rec_table.specs.Views.{MutatorView, Started}
use Rattle.recycler_c.specs.Calls.{IsOut}
use Rattle.recycler_c.specs.Standing.{held_at}
use Rattle.recycler_c.specs.declared.handle.Handle.{Handle}
use Rattle.recycler_c.proofs.seating.hand_out.Given as goal

abbrev pub invariant-loop-mutator : goal.invariant-loop-mutator
invariant-loop-mutator l = record {
  few : length l.home.items ≤ length l.fn.home.items;
  capacity : vec_capacity l.home ≡ vec_capacity l.fn.home;
  first : (k : ℕ) (e : MutatorView) → k < length l.home.items → slice_index_or l.home.items k e ≡ slice_index_or l.fn.home.items k e;
  many : length l.heaps.items ≡ length l.home.items;
  heaps : (s : Started) → All (λ heap. arc_value heap ≡ s) l.fn.heaps.items → All (λ heap. arc_value heap ≡ s) l.heaps.items;
  waiting : (k : ℕ) (d : Handle) → k < length l.home.items → held_at l.handles k d ≡ held_at l.fn.handles k d;
  out : (s : Started) → All (λ heap. arc_value heap ≡ s) l.fn.heaps.items → (k : ℕ) (d : Handle) (e : MutatorView) → length l.home.items ≤ k → k < length l.fn.home.items →
      IsOut s (slice_index_or l.fn.home.items k e) (held_at l.handles k d);
  others : (k : ℕ) (d : Handle) → length l.fn.home.items ≤ k → held_at l.handles k d ≡ held_at l.fn.handles k d;
}

abbrev pub decreases-loop-mutator : goal.decreases-loop-mutator
decreases-loop-mutator l = length l.home.items
