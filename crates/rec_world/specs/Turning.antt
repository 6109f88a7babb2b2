-- Turns of the collector, one after another.
use Rattle.std.specs.Prelude.{ℕ, ◌+◌}
use Rattle.rec_collector.specs.Private.{Private, plain}
use Rattle.rec_collector.specs.declared.turn.Turn.{Turn}
use Rattle.rec_collector.specs.declared.turn.Turn.TheVariants.{Moved}
use Rattle.rec_core.specs.Cells.{Cells}
use Rattle.rec_core.specs.Core.{Core, opened, with_cells}
use Rattle.rec_core.specs.Turn.{IsTurn}
use Rattle.rec_world.specs.World.{IsWorld}

-- From the first heap on the collector made so many turns, of which all but the last one moved. They left this heap, and the last one
-- answered this; without any it is Moved.
pub data HasTurned (first : Core) : ℕ → Core → Turn → Type 0 where
  none : HasTurned first 0 first Moved
  more : (n : ℕ) (before after : Core) (answer : Turn) → HasTurned first n before Moved → IsTurn before after answer → HasTurned first (n + 1) after answer

-- the heap with these words and this collector
abbrev pub with_turned : Core → Cells → Private → Core
with_turned first c p = record (with_cells first c) { collector = p }

-- So many turns left these words and this collector, and nothing else changed. The last one answered this.
pub record Stands (first : Core) (c : Cells) (n : ℕ) (p : Private) (answer : Turn) : Type 0 where
  pub world : IsWorld (with_turned first c p)
  pub turned : HasTurned first n (with_turned first c p) answer

-- a heap to name where none is at hand
abbrev pub some_heap : Core
some_heap = opened (record { slots = 0; fields = 0; registers = 0; mutators = 0; log_entries = 0; first_epoch = 0; policy = plain })
