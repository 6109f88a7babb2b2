-- The loops of `Collector::turns`: makes turns until one comes to something else than that it moved, and at most so many.
use Rattle.std.proofs.Common.{◌-◌, ◌≤◌}
use Rattle.rec_table.specs.Turn.{MovesTo}
use Rattle.rec_table.specs.Views.{IsCollectorOf}
use Rattle.rec_table.proofs.collector.Collector.turns.Given as goal

abbrev pub invariant-loop-moves : goal.invariant-loop-moves
invariant-loop-moves l = record { own : IsCollectorOf l.heap l.self; moved : MovesTo l.fn.self l.moves l.self; few : l.moves ≤ l.most }

abbrev pub decreases-loop-moves : goal.decreases-loop-moves
decreases-loop-moves l = l.most - l.moves
