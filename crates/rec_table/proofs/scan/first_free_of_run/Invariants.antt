-- The loops of `first_free_of_run`: the same within one run of slots.
use Rattle.std.proofs.Common.{◌≡◌, ◌+◌, ◌<◌, ◌-◌}
use Rattle.rec_table.proofs.Common.{seated_of, Passed}
use Rattle.rec_table.proofs.scan.first_free_of_run.Given as goal

abbrev pub invariant-loop-done : goal.invariant-loop-done
invariant-loop-done l = record {
  table : l.seat.table_id ≡ l.initial.seat.table_id;
  id : l.seat.id ≡ l.initial.seat.id;
  passed : Passed (seated_of l.initial.seat.me.0) l.probed (l.probed + l.done) l.seat.me;
  few : l.done < l.many;
}

abbrev pub decreases-loop-done : goal.decreases-loop-done
decreases-loop-done l = l.many - l.done
