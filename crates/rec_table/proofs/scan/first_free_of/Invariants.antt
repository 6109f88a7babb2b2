-- The loops of `first_free_of`: the same of a few slots.
use Rattle.std.proofs.Common.{◌≡◌, ◌+◌, ◌≤◌}
use Rattle.rec_table.proofs.Common.{seated_of, Passed}
use Rattle.rec_table.proofs.scan.first_free_of.Given as goal

abbrev pub invariant-loop-index : goal.invariant-loop-index
invariant-loop-index l = record {
  table : l.seat.table_id ≡ l.initial.seat.table_id;
  id : l.seat.id ≡ l.initial.seat.id;
  passed : Passed (seated_of l.initial.seat.me.0) l.probed (l.probed + l.index) l.seat.me;
  few : l.index ≤ l.many;
}
