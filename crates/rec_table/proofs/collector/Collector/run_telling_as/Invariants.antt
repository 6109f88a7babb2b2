-- The loop of `Collector::run_telling_as`: turns of one kind, each of which moved and told what it freed.
use Rattle.std.proofs.Common.{◌≡◌, ◌<◌, ◌≤◌, IsSome}
use mathlib.Core.List.{IsPrefix}
use Rattle.rec_collector.specs.Kind.{kind_of}
use Rattle.rec_io.specs.Faults.{Rose}
use Rattle.rec_notice.specs.Telling.{told}
use Rattle.rec_table.specs.Telling.{TellsTurns}
use Rattle.rec_table.specs.Turn.{MovesTo}
use Rattle.rec_table.specs.Views.{CollectorView, IsCollectorOf, collector_now}
use Rattle.rec_table.proofs.collector.Collector.run_telling_as.Given as goal

abbrev pub invariant-loop-moves : goal.invariant-loop-moves
invariant-loop-moves g l = record {
  own : IsCollectorOf l.heap l.self;
  kind : l.kind ≡ kind_of (collector_now l.self).phase;
  moved : (first : CollectorView) → MovesTo first l.from l.fn.self → MovesTo first l.moves l.self;
  grows : TellsTurns l.fn.self l.self (told g.T.Tube.sent l.fn.teller) (told g.T.Tube.sent l.teller);
  first : l.from < l.moves → IsPrefix (told g.T.Tube.sent l.fn.teller) (g.T.Tube.sent l.teller.tube);
  refused : l.from < l.moves → IsSome l.teller.kept → Rose (g.T.Tube.refusals l.fn.teller.tube) (g.T.Tube.refusals l.teller.tube);
  never_falls : g.T.Tube.refusals l.fn.teller.tube ≤ g.T.Tube.refusals l.teller.tube;
  same : g.T.Tube.SameTube l.fn.teller.tube l.teller.tube;
}
