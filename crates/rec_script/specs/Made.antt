-- Made scripts: the commands that a seed draws for mutators, and the text that spells them.
use Rattle.std.specs.Prelude.{ℕ, zero, suc, ◌+◌, ◌*◌, ◌%◌, ◌==◌, nat_le, if◌then◌else◌, List, [], length, map}
use Rattle.std.specs.List.{flat_map, range_with_len}
use Rattle.rand_pcg.specs.Lcg.{Lcg, started, increment_of}
use Rattle.rand_pcg.specs.Pcg.{multiplier_64, pcg32}
use Rattle.rec_model.specs.declared.command.Cmd.{Cmd}
use Rattle.rec_model.specs.declared.command.Cmd.TheVariants.{New, Null, Copy, Get, Put, Value, Same}
use Rattle.rec_script.specs.Lines.{spaced}
use Rattle.rec_script.specs.Script.{ScriptContents, operands_of, spelled}

-- the generator of the words, in stream 2
abbrev pub generator_of : (seed : ℕ) → Lcg
generator_of seed = started 64 multiplier_64 seed (increment_of 64 2)

-- The generator after so many words.
unfoldable pub after_words : (count : ℕ) → Lcg → Lcg
after_words zero generator = generator
after_words (suc count) generator = (pcg32 (after_words count generator)).1

-- The word that comes after so many others.
unfoldable pub word_after : (count : ℕ) → Lcg → ℕ
word_after count generator = (pcg32 (after_words count generator)).0

-- the register that a word names for a command to write: never register 0
abbrev pub written : (word : ℕ) → ℕ
written word = word % 7 + 1

-- the register that a word names for a command to read
abbrev pub read : (word : ℕ) → ℕ
read word = word % 8

-- the field that a word names
abbrev pub field : (word : ℕ) → ℕ
field word = word % 2

-- the label that a word names
abbrev pub label : (word : ℕ) → ℕ
label word = word % 1000

-- the table: the row says the command, and the next words its operands, in the order in which they stand in its line
abbrev pub command_in : (row a b c : ℕ) → Cmd
command_in row a b c =
    if nat_le row 3 then New (written a) (label b) else
    if row == 4 then Null (written a) else
    if nat_le row 6 then Copy (written a) (read b) else
    if nat_le row 9 then Get (written a) (read b) (field c) else
    if nat_le row 13 then Put (read a) (field b) (read c) else
    if row == 14 then Value (read a) else
    Same (read a) (read b)

-- The command that a generator draws: its first word names the row, the next ones the operands.
unfoldable pub drawn : Lcg → Cmd
drawn generator = command_in (word_after 0 generator % 16) (word_after 1 generator) (word_after 2 generator) (word_after 3 generator)

-- The generator after that command: it took a word for the row, and one for each operand.
unfoldable pub after_drawn : Lcg → Lcg
after_drawn generator = after_words (1 + length (operands_of (drawn generator))) generator

-- The generator after so many commands.
unfoldable pub after_commands : (count : ℕ) → Lcg → Lcg
after_commands zero generator = generator
after_commands (suc count) generator = after_drawn (after_commands count generator)

-- so many commands that a generator draws one after the other
abbrev pub commands_from : Lcg → (count : ℕ) → List Cmd
commands_from generator count = map (λ i. drawn (after_commands i generator)) (range_with_len 0 count)

-- The commands of each mutator: its draws go on where those of the mutator before it end.
unfoldable pub made_commands : (seed mutators commands : ℕ) → List (List Cmd)
made_commands seed mutators commands = map (λ t. commands_from (after_commands (t * commands) (generator_of seed)) commands) (range_with_len 0 mutators)

-- the script with these commands, of version 1
abbrev pub made_script : (seed mutators commands : ℕ) → ScriptContents
made_script seed mutators commands = record { version = 1; slots = 1024; fields = 2; registers = 8; commands = made_commands seed mutators commands }

-- lines, each with one space between each two words, and an LF behind the last one
abbrev pub text_of : List (List (List ℕ)) → List ℕ
text_of lines = flat_map (λ line. spaced line []) lines

-- The text of the script.
unfoldable pub made_text : (seed mutators commands : ℕ) → List ℕ
made_text seed mutators commands = text_of (spelled (made_script seed mutators commands))
