-- The loops of `make`: a script of version 1, of so many mutators with so many commands each, drawn from a seed as the profile says (`docs/PROFILE.md`, "Made scripts").
use Rattle.std.proofs.Common.{◌≡◌, ◌*◌, string_bytes}
use Rattle.rec_script.specs.Made.{after_commands, generator_of, made_text}
use Rattle.rec_script.proofs.making.make.Given as goal

-- the text so far is that of the mutators so far, and the generator is behind their commands
abbrev pub invariant-loop : goal.invariant-loop
invariant-loop l = record {
  text : string_bytes l.text ≡ made_text l.seed l.counter l.commands;
  next : l.generator ≡ after_commands (l.counter * l.commands) (generator_of l.seed);
}
