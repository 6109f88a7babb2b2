-- The loop of `Collector::turns_telling`: makes turns that tell until one comes to something else than that it moved or a label is held.
use Rattle.std.proofs.Common.{◌-◌, ◌≤◌, IsSome}
use mathlib.Core.List.{IsPrefix}
use Rattle.rec_io.specs.Faults.{Rose}
use Rattle.rec_notice.specs.Telling.{told}
use Rattle.rec_table.specs.Telling.{TellsTurns}
use Rattle.rec_table.specs.Turn.{MovesTo}
use Rattle.rec_table.specs.Views.{IsCollectorOf}
use Rattle.rec_table.proofs.collector.Collector.turns_telling.Given as goal

abbrev pub invariant-loop-moves : goal.invariant-loop-moves
invariant-loop-moves g l = record {
  own : IsCollectorOf l.heap l.self;
  moved : MovesTo l.fn.self l.moves l.self;
  few : l.moves ≤ l.most;
  grows : TellsTurns l.fn.self l.self (told g.T.Tube.sent l.fn.teller) (told g.T.Tube.sent l.teller);
  first : 1 ≤ l.moves → IsPrefix (told g.T.Tube.sent l.fn.teller) (g.T.Tube.sent l.teller.tube);
  refused : 1 ≤ l.moves → IsSome l.teller.kept → Rose (g.T.Tube.refusals l.fn.teller.tube) (g.T.Tube.refusals l.teller.tube);
  never_falls : g.T.Tube.refusals l.fn.teller.tube ≤ g.T.Tube.refusals l.teller.tube;
  same : g.T.Tube.SameTube l.fn.teller.tube l.teller.tube;
}

abbrev pub decreases-loop-moves : goal.decreases-loop-moves
decreases-loop-moves g l = l.most - l.moves
