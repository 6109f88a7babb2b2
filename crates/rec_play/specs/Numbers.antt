-- The numbers of the heap that a script runs on.
use Rattle.std.specs.Prelude.{ℕ, max, List, [], ◌∷◌, length}
use Rattle.rec_collector.specs.Private.{plain}
use Rattle.rec_model.specs.declared.command.Cmd.{Cmd}
use Rattle.rec_core.specs.declared.config.Config.{Config}
use Rattle.rec_script.specs.Script.{ScriptContents}

-- the greatest number of commands of a mutator
abbrev pub longest : List (List Cmd) → ℕ
longest [] = 0
longest (cmds ∷ rest) = max (length cmds) (longest rest)

-- the room of each log: that of the longest mutator, and at least one entry
abbrev pub log_room : ScriptContents → ℕ
log_room script = max (longest script.commands) 1

-- the numbers of the heap that a script runs on
abbrev pub config_of : ScriptContents → Config
config_of script =
    record {
      slots = script.slots;
      fields = script.fields;
      registers = script.registers;
      mutators = length script.commands;
      log_entries = log_room script;
      first_epoch = 1;
      policy = plain;
    }
