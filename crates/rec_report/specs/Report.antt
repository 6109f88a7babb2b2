-- What a report is made from.
use Rattle.std.specs.Prelude.{◌≡◌, ℕ, length}
use Rattle.rec_model.specs.Sight.{NumbersSlots}
use Rattle.rec_world.specs.Numbering.{Numbered}
use Rattle.rec_world.specs.World.{Core, sight}
use Rattle.rec_script.specs.Script.{ScriptContents}

-- the script's numbers are the world's
pub record AreFor (script : ScriptContents) (w : Core) : Type 0 where
  pub slots : script.slots ≡ w.config.slots
  pub fields : script.fields ≡ w.config.fields
  pub registers : script.registers ≡ w.config.registers
  pub mutators : length script.commands ≡ w.config.mutators

-- the numbering of a world's listing, and how many fields an object has
pub record IsNumbered (w : Core) (fields : ℕ) (n : Numbered) : Type 0 where
  pub same_fields : fields ≡ w.config.fields
  pub numbers : NumbersSlots (sight w) n.list
