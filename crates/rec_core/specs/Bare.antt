-- A heap of bare words, and the heap of dated words that a law sees behind it.
use Rattle.std.specs.Prelude.{◌≡◌, map}
use Rattle.rec_word.specs.Bare.{bare}
use Rattle.rec_log.specs.Words.{buffer_by}
use Rattle.rec_mutator.specs.Bare as mutators
use Rattle.rec_collector.specs.Bare as collectors
use Rattle.rec_core.specs.Cells.{Cells}
use Rattle.rec_core.specs.Core.{Core}

-- the shared words with bare field words
abbrev pub bare_cells : Cells → Cells
bare_cells cells = record cells { words = map bare cells.words }

-- the heap with bare words: in fields, in every buffer, and in what commands are told
abbrev pub bare_core : Core → Core
bare_core w =
    record w {
      words = map bare w.words;
      boxes = map (buffer_by bare) w.boxes;
      mutators = map mutators.bare_private w.mutators;
      collector = collectors.bare_private w.collector;
    }

-- of the heap of dated words that stands behind this one
abbrev pub Behind : Core → (Core → Type 0) → Type 0
Behind w P = (dated : Core) × (bare_core dated ≡ w) × P dated
