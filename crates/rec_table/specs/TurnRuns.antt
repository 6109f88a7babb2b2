-- A run of the collector's turns on the table.
use Rattle.std.specs.Prelude.{◌≡◌, ℕ, ◌+◌, ◌≤◌, Option, List, []}
use Rattle.atomic_table.specs.Seated.{TableId}
use Rattle.atomic_table.specs.Table.{Me}
use Rattle.rec_log.specs.declared.contents.Contents.{Contents}
use Rattle.rec_collector.specs.Kept.{IsMachine, KeepsSizes}
use Rattle.rec_collector.specs.Private.{Private}
use Rattle.rec_collector.specs.Step.{IsBetween}
use Rattle.rec_collector.specs.declared.turn.Turn.{Turn}
use Rattle.rec_collector.specs.declared.turn.Turn.TheVariants.{Moved}
use Rattle.rec_core.specs.Core.{Core}
use Rattle.rec_world.specs.World.{IsWorld}
use Rattle.rec_table.specs.Beats.{gathered_all}
use Rattle.rec_table.specs.Rule.{boxes_out, collecting_of}
use Rattle.rec_table.specs.Telling.{freed_labels}
use Rattle.rec_table.specs.Turn.{MakesTurn, MovesTo}
use Rattle.rec_table.specs.Views.{CollectorView, collector_now, collector_view}
use Rattle.rec_table.specs.declared.views.CollectorSeat.{CollectorSeat}
use Rattle.rec_table.specs.declared.views.View.{View}
use Rattle.rec_table.specs.declared.views.View.TheVariants.{Collects}

abbrev pub no_seat : CollectorSeat
no_seat = record { log = []; made = 0; known = [] }

-- The collector's seat and its machine between two turns: the seat holds these mailboxes, and the machine is what the list makes of it.
pub record IsSeat (z : TableId) (key : Core) (own : TableId) (has : Me (Option Contents) View) (boxes : List (ℕ × Option Contents)) (p : Private) : Type 0 where
  pub table : own ≡ z
  pub me : has ≡ (Collects (collecting_of has.0), boxes)
  pub is : p ≡ gathered_all key.collector (collecting_of has.0).log
  pub sizes : KeepsSizes key.collector p
  pub between : IsBetween p.phase

-- The collector made so many turns, of which all but the last one moved. This is what the last one answered, and Moved where there
-- was none.
pub data Made (first : CollectorView) : CollectorView → ℕ → Turn → Type 0 where
  none : Made first first 0 Moved
  more : (n : ℕ) (u v : CollectorView) (turn : Turn) → MovesTo first n u → MakesTurn u v turn → Made first v (n + 1) turn

-- The collector has swept no fewer slots, and where it has swept no more, it has freed no label.
pub record FreesBySweeps (first last : CollectorView) : Type 0 where
  pub grows : (collector_now first).freed ≤ (collector_now last).freed
  pub none : (collector_now last).freed ≡ (collector_now first).freed → freed_labels last ≡ freed_labels first

-- From a seat that knew this, so many turns were made, which came to this machine, and the last one answered this: what the seat has and
-- knows.
pub record Stands (z : TableId) (key : Core) (start : CollectorSeat) (own : TableId) (has : Me (Option Contents) View) (n : ℕ) (p : Private) (turn : Turn) : Type 0 where
  pub world : IsWorld key
  pub table : own ≡ z
  pub me : has ≡ (Collects (collecting_of has.0), boxes_out p)
  pub same : collecting_of has.0 ≡ record start { log = (collecting_of has.0).log }
  pub is : p ≡ gathered_all key.collector (collecting_of has.0).log
  pub kept : IsMachine p
  pub sizes : KeepsSizes key.collector p
  pub between : IsBetween p.phase
  pub made : Made (collector_view z key.collector start) (collector_view z key.collector (collecting_of has.0)) n turn
  pub frees : FreesBySweeps (collector_view z key.collector start) (collector_view z key.collector (collecting_of has.0))
