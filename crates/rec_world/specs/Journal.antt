-- What a journal holds.
use Rattle.std.specs.Prelude.{ℕ, List, []}
use Rattle.rec_model.specs.declared.command.Cmd.{Cmd}
use Rattle.rec_model.specs.declared.told.Told.{Told}

-- each command with what was told, in order, and how many more fit
pub record Notes : Type 0 where
  pub lines : List (Cmd × Told)
  pub room : ℕ

-- a journal with no line and no room
abbrev pub no_notes : Notes
no_notes = record { lines = []; room = 0 }
