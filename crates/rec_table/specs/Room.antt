-- Room for what a world is made of.
use Rattle.std.specs.Prelude.{◌≡◌, ◌≤◌, [], vec_capacity}
use Rattle.atomic_table.specs.Seated.{TableId}
use Rattle.rec_core.specs.Core.{Core}
use Rattle.rec_table.specs.declared.spare.Spare.{Spare}

-- the numbers and births are the started world's, and all that a table of this size holds fits in
pub record HasRoom (spare : Spare) (z : TableId) (key : Core) : Type 0 where
  pub config : spare.config ≡ key.config
  pub made : spare.made ≡ key.made
  pub row : spare.row.items ≡ []
  pub words : z.words ≤ vec_capacity spare.row
  pub boxes : spare.boxes.items ≡ []
  pub slots : z.slots ≤ vec_capacity spare.boxes
  pub machines : spare.machines.items ≡ []
  pub mutators : key.config.mutators ≤ vec_capacity spare.machines
