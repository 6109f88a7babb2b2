-- The loops of `push_commands`: adds the lines of so many commands.
use Rattle.std.proofs.Common.{◌≡◌, ◌++◌, map, string_bytes}
use Rattle.rec_script.specs.Script.{command_line}
use Rattle.rec_script.specs.Made.{after_commands, commands_from, text_of}
use Rattle.rec_script.proofs.making.push_commands.Given as goal

-- the lines of the commands so far stand behind what there was, and the generator is behind these commands
abbrev pub invariant-loop : goal.invariant-loop
invariant-loop l = record {
  text : string_bytes l.text ≡ string_bytes l.fn.text ++ text_of (map command_line (commands_from l.fn.generator l.counter));
  next : l.generator ≡ after_commands l.counter l.fn.generator;
}
