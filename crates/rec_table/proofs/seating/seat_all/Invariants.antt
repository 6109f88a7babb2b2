-- The mutators so far are the first ones, and the machines that are left are those behind them.
use Rattle.std.proofs.Common.{◌≡◌, ℕ, ◌+◌, ◌<◌, ◌≤◌, drop, length, slice_index_or, vec_capacity}
use Rattle.rec_table.proofs.Common.{MutatorView, fresh, started}
use Rattle.rec_table.proofs.seating.seat_all.Given as goal

abbrev pub invariant-loop-machines : goal.invariant-loop-machines
invariant-loop-machines l = record {
  rest : l.machines.items ≡ drop (length l.mutators.items) l.fn.machines.items;
  each : (k : ℕ) (d : MutatorView) → k < length l.mutators.items → slice_index_or l.mutators.items k d ≡ fresh (started l.fn.board.table.shared.table_id l.fn.board.table.shared.key.value) (k + 1);
  few : length l.mutators.items ≤ length l.fn.machines.items;
  collector : l.collector ≡ record l.fn.collector { collecting = record l.fn.collector.collecting { made = length l.mutators.items } };
  capacity : vec_capacity l.machines ≡ vec_capacity l.fn.machines;
  room : length l.fn.machines.items ≤ vec_capacity l.mutators;
}

abbrev pub decreases-loop-machines : goal.decreases-loop-machines
decreases-loop-machines l = goal.left-loop-machines l
