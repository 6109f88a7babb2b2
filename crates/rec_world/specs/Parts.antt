-- What a heap is made of.
use Rattle.std.specs.Prelude.{◌≡◌, Some, map}
use Rattle.rec_log.specs.declared.contents.Contents.{Contents}
use Rattle.rec_core.specs.Core.{Core, cells_of}
use Rattle.rec_core.specs.Row.{row}
use Rattle.rec_world.specs.World.{IsWorld}
use Rattle.rec_world.specs.declared.parts.Parts.{Parts}

-- the shared words in one row, each mailbox at home, the machines, and the births; the index is of no account
pub record AreParts (w : Core) (parts : Parts) : Type 0 where
  pub config : parts.config ≡ w.config
  pub row : parts.row.items ≡ row (cells_of w)
  pub boxes : parts.boxes.items ≡ map (λ (b : Contents). Some b) w.boxes
  pub machines : parts.machines.items ≡ w.mutators
  pub collector : parts.collector ≡ w.collector
  pub made : parts.made ≡ w.made

-- they are the parts of some world
abbrev pub MakeWorld : Parts → Type 0
MakeWorld parts = (w : Core) × (IsWorld w × AreParts w parts)
