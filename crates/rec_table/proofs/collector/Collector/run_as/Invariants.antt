-- The loops of `Collector::run_as`: turns of one kind, each of which moved.
use Rattle.std.proofs.Common.{◌≡◌}
use Rattle.rec_collector.specs.Kind.{kind_of}
use Rattle.rec_table.specs.Turn.{MovesTo}
use Rattle.rec_table.specs.Views.{CollectorView, IsCollectorOf, collector_now}
use Rattle.rec_table.proofs.collector.Collector.run_as.Given as goal

abbrev pub invariant-loop-moves : goal.invariant-loop-moves
invariant-loop-moves l = record {
  own : IsCollectorOf l.heap l.self;
  moved : (first : CollectorView) → MovesTo first l.from l.fn.self → MovesTo first l.moves l.self;
  kind : l.kind ≡ kind_of (collector_now l.self).phase;
}
