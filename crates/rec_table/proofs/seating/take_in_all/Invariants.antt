-- The lists of the mutators that were taken in are known, and their machines and births are at hand; those behind them are left.
use Rattle.std.proofs.Common.{◌≡◌, ◌+◌, ◌≤◌, ◌%◌, ◌^◌, All, false, drop, length, map, take, vec_capacity}
use Rattle.std.specs.List.{sum_by}
use Rattle.rec_table.proofs.Common.{Private, is_busy, births_told, MutatorView, mutator_now}
use Rattle.rec_table.proofs.seating.take_in_all.Given as goal

abbrev pub invariant-loop-mutators : goal.invariant-loop-mutators
invariant-loop-mutators l = record {
  rest : l.mutators.items ≡ drop (length l.machines.items) l.fn.mutators.items;
  machines : l.machines.items ≡ map mutator_now (take (length l.machines.items) l.fn.mutators.items);
  idle : All (λ (p : Private). is_busy p ≡ false) l.machines.items;
  known : l.collector ≡ record l.fn.collector { collecting = record l.fn.collector.collecting { known = map (λ (m : MutatorView). m.log) (take (length l.machines.items) l.fn.mutators.items) } };
  made : l.made ≡ (l.fn.made + sum_by (λ (m : MutatorView). births_told m.opened m.log) (take (length l.machines.items) l.fn.mutators.items)) % 2 ^ 64;
  room : length l.fn.mutators.items ≤ vec_capacity l.machines;
}

abbrev pub decreases-loop-mutators : goal.decreases-loop-mutators
decreases-loop-mutators l = goal.left-loop-mutators l
