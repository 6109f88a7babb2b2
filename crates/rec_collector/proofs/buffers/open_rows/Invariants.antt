-- The rows so far are opened, and the others are left.
use Rattle.std.proofs.Common.{◌≡◌, ◌-◌, ◌*◌, ◌++◌, length, map}
use Rattle.rec_collector.proofs.Common.{retired}
use Rattle.rec_collector.specs.Private.{retired_rows}
use Rattle.rec_collector.specs.Rows.{rows_of}
use Rattle.rec_collector.proofs.buffers.open_rows.Given as goal

abbrev pub invariant-loop : goal.invariant-loop
invariant-loop l = record {
  rows : retired_rows l.registers l.mutators l.capacity l.held ≡ l.row.items ++ map (λ own. retired own l.capacity) (rows_of l.registers (l.mutators - l.counter) l.rest);
  left : length l.rest ≡ (l.mutators - l.counter) * l.registers;
}
