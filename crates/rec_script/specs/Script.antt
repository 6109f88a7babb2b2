-- A script: what it holds, within which limits, and how its lines spell it; and of a text that spells none, the first line
-- that no script continues, with what is wrong with it.
use Rattle.std.specs.Prelude.{◌≡◌, ◌≢◌, ◌⊎◌, ℕ, ◌+◌, ◌-◌, ◌<◌, ◌≤◌, ◌^◌, nat_le, if◌then◌else◌, true, Some, List, [], ◌∷◌, ◌++◌, length, get_or, take, drop, All, map, codes}
use Rattle.std.specs.Fmt.{decimal}
use Rattle.std.specs.List.{flat_map, slice_get}
use Rattle.std.specs.Str.{IsUtf8}
use Rattle.rec_model.specs.declared.command.Cmd.{Cmd}
use Rattle.rec_model.specs.declared.limits.TheConstants.{MOST_SLOTS, MOST_FIELDS, MOST_REGISTERS, MOST_MUTATORS, MOST_SCRIPT_MUTATORS, MOST_COMMANDS, MOST_BYTES}
use Rattle.rec_model.specs.declared.command.Cmd.TheVariants.{New, Leaf, Null, Copy, Get, Put, Value, Same, Leave, Park, Unpark}
use Rattle.rec_model.specs.Operands.{HasOperands, HasLabel}
use Rattle.rec_script.specs.declared.error.Kind.{Kind}
use Rattle.rec_script.specs.declared.error.Kind.TheVariants.{TooLong, NotUtf8, NoHeader, BadHeap, NoMutator, BadCommand, TooManyMutators, TooManyCommands, BadNumber, Register, Field, BadImage}
use Rattle.rec_script.specs.Lines.{lines, words, is_counted, counted, AreUtf8}

-- what a script holds: its version, the numbers of its heap, and the commands of each mutator in turn
pub record ScriptContents : Type 0 where
  pub version : ℕ
  pub slots : ℕ
  pub fields : ℕ
  pub registers : ℕ
  pub commands : List (List Cmd)

-- the operands of a command are in range
abbrev pub IsCommand : (registers fields : ℕ) → Cmd → Type 0
IsCommand registers fields cmd = HasOperands registers fields cmd × HasLabel cmd

-- the version that a command came with; those of version 4 are in no version yet
abbrev pub since : Cmd → ℕ
since (New reg label) = 1
since (Leaf reg label) = 2
since (Null reg) = 1
since (Copy dst src) = 1
since (Get dst src field) = 1
since (Put src field val) = 1
since (Value reg) = 1
since (Same a b) = 1
since Leave = 3
since Park = 4
since Unpark = 4

-- a version has this command
abbrev pub Allows : (version : ℕ) → Cmd → Type 0
Allows version cmd = since cmd ≤ version

-- the versions that there are
pub record IsVersion (version : ℕ) : Type 0 where
  pub some : 1 ≤ version
  pub most : version ≤ 3

-- how many mutators a version allows: as many as a heap has, from the version on in which mutators leave
abbrev pub most_mutators : (version : ℕ) → ℕ
most_mutators version = if nat_le (since Leave) version then MOST_MUTATORS else MOST_SCRIPT_MUTATORS

-- the limits of a heap
pub record IsHeap (slots fields registers : ℕ) : Type 0 where
  pub some_slots : 1 ≤ slots
  pub most_slots : slots ≤ MOST_SLOTS
  pub some_fields : 1 ≤ fields
  pub most_fields : fields ≤ MOST_FIELDS
  pub some_registers : 1 ≤ registers
  pub most_registers : registers ≤ MOST_REGISTERS

-- a mutator with these commands has left: the last one is that by which it leaves
abbrev pub HasLeft : List Cmd → Type 0
HasLeft cmds = slice_get cmds (length cmds - 1) ≡ Some Leave

-- no command follows the one by which the mutator leaves
abbrev pub LeavesLast : List Cmd → Type 0
LeavesLast cmds = (k : ℕ) → slice_get cmds k ≡ Some Leave → k + 1 ≡ length cmds

-- the limits of one mutator's commands
pub record AreCommands (version registers fields : ℕ) (cmds : List Cmd) : Type 0 where
  pub few : length cmds ≤ MOST_COMMANDS
  pub leaves_last : LeavesLast cmds
  pub allowed : All (Allows version) cmds
  pub in_range : All (IsCommand registers fields) cmds

-- the limits of a script
pub record IsScript (contents : ScriptContents) : Type 0 where
  pub version : IsVersion contents.version
  pub heap : IsHeap contents.slots contents.fields contents.registers
  pub some_mutators : 1 ≤ length contents.commands
  pub most_mutators : length contents.commands ≤ most_mutators contents.version
  pub commands : All (AreCommands contents.version contents.registers contents.fields) contents.commands

-- the first line that counts
abbrev pub header : (version : ℕ) → List (List ℕ)
header version = codes "recycler" ∷ decimal version ∷ []

-- the second line that counts
abbrev pub heap_line : (slots fields registers : ℕ) → List (List ℕ)
heap_line slots fields registers = codes "heap" ∷ decimal slots ∷ decimal fields ∷ decimal registers ∷ []

-- the line above the commands of a mutator
abbrev pub mutator_line : List (List ℕ)
mutator_line = codes "mutator" ∷ []

-- the first word of a command's line
abbrev pub word_of : Cmd → List ℕ
word_of (New reg label) = codes "new"
word_of (Leaf reg label) = codes "leaf"
word_of (Null reg) = codes "null"
word_of (Copy dst src) = codes "copy"
word_of (Get dst src field) = codes "get"
word_of (Put src field val) = codes "put"
word_of (Value reg) = codes "value"
word_of (Same a b) = codes "same"
word_of Leave = codes "leave"
word_of Park = codes "park"
word_of Unpark = codes "unpark"

-- the numbers behind it, from left to right
abbrev pub operands_of : Cmd → List ℕ
operands_of (New reg label) = reg ∷ label ∷ []
operands_of (Leaf reg label) = reg ∷ label ∷ []
operands_of (Null reg) = reg ∷ []
operands_of (Copy dst src) = dst ∷ src ∷ []
operands_of (Get dst src field) = dst ∷ src ∷ field ∷ []
operands_of (Put src field val) = src ∷ field ∷ val ∷ []
operands_of (Value reg) = reg ∷ []
operands_of (Same a b) = a ∷ b ∷ []
operands_of Leave = []
operands_of Park = []
operands_of Unpark = []

-- the line of a command
abbrev pub command_line : Cmd → List (List ℕ)
command_line cmd = word_of cmd ∷ map decimal (operands_of cmd)

-- the lines of a mutator
abbrev pub mutator_lines : List Cmd → List (List (List ℕ))
mutator_lines cmds = mutator_line ∷ map command_line cmds

-- the lines that count of a script, each as its words
abbrev pub spelled : ScriptContents → List (List (List ℕ))
spelled contents = header contents.version ∷ heap_line contents.slots contents.fields contents.registers ∷ flat_map mutator_lines contents.commands

-- these lines spell this script
pub record Spells (text : List (List ℕ)) (contents : ScriptContents) : Type 0 where
  pub utf8 : AreUtf8 text
  pub counted_are : counted text ≡ spelled contents
  pub limits : IsScript contents

-- the bytes are the text of a script, and no more than 16,777,216
abbrev pub IsText : List ℕ → Type 0
IsText bytes = (contents : ScriptContents) × (length bytes ≤ MOST_BYTES) × Spells (lines bytes) contents

-- some further lines make a script's text of these
abbrev pub Continues : List (List ℕ) → Type 0
Continues before = (after : List (List ℕ)) × (contents : ScriptContents) × Spells (before ++ after) contents

-- a line with the first word and the number of words that some command's line has
abbrev pub IsShaped : List (List ℕ) → Cmd → Type 0
IsShaped line cmd = (get_or line 0 [] ≡ get_or (command_line cmd) 0 []) × (length line ≡ length (command_line cmd))

-- for each operand of a command, what it has to be below, and what is wrong where it isn't; there is no larger label
abbrev pub limits_of : (registers fields : ℕ) → Cmd → List (ℕ × Kind)
limits_of registers fields (New reg label) = (registers, Register) ∷ (2 ^ 32, BadNumber) ∷ []
limits_of registers fields (Leaf reg label) = (registers, Register) ∷ (2 ^ 32, BadNumber) ∷ []
limits_of registers fields (Null reg) = (registers, Register) ∷ []
limits_of registers fields (Copy dst src) = (registers, Register) ∷ (registers, Register) ∷ []
limits_of registers fields (Get dst src field) = (registers, Register) ∷ (registers, Register) ∷ (fields, Field) ∷ []
limits_of registers fields (Put src field val) = (registers, Register) ∷ (fields, Field) ∷ (registers, Register) ∷ []
limits_of registers fields (Value reg) = (registers, Register) ∷ []
limits_of registers fields (Same a b) = (registers, Register) ∷ (registers, Register) ∷ []
limits_of registers fields Leave = []
limits_of registers fields Park = []
limits_of registers fields Unpark = []

-- a word is a numeral of this number: one in its one spelling, and at most 4,294,967,295
abbrev pub IsNumeralOf : List ℕ → ℕ → Type 0
IsNumeralOf word n = (n < 2 ^ 32) × (word ≡ decimal n)

-- an operand is right: a numeral below its limit
abbrev pub IsRight : ℕ × Kind → List ℕ → Type 0
IsRight limit word = (n : ℕ) × IsNumeralOf word n × (n < limit.0)

-- what is wrong with an operand: it is no numeral; else it is out of its range
abbrev pub IsWrong : ℕ × Kind → List ℕ → Kind → Type 0
IsWrong limit word kind = ((kind ≡ BadNumber) × ((n : ℕ) → ¬ IsNumeralOf word n)) ⊎ ((n : ℕ) × IsNumeralOf word n × (limit.0 ≤ n) × (kind ≡ limit.1))

-- what is wrong with operands: what is wrong with the first one from the left that isn't right
abbrev pub AreWrong : List (ℕ × Kind) → List (List ℕ) → Kind → Type 0
AreWrong [] operands kind = ⊥
AreWrong (limit ∷ limits) [] kind = ⊥
AreWrong (limit ∷ limits) (word ∷ operands) kind = IsWrong limit word kind ⊎ (IsRight limit word × AreWrong limits operands kind)

-- the commands of the last mutator
abbrev pub last_commands : List (List Cmd) → List Cmd
last_commands [] = []
last_commands (cmds ∷ []) = cmds
last_commands (cmds ∷ more ∷ later) = last_commands (more ∷ later)

-- what is wrong with a line behind these commands of its mutator: the mutator has left; else it is of no command that the version has; else it is one too many; else an operand is wrong
pub data IsBadCommand (version registers fields : ℕ) (cmds : List Cmd) (line : List (List ℕ)) : Kind → Type 0 where
  gone : HasLeft cmds → IsBadCommand version registers fields cmds line BadCommand
  unknown : ((cmd : Cmd) → Allows version cmd → ¬ IsShaped line cmd) → IsBadCommand version registers fields cmds line BadCommand
  too_many : (cmd : Cmd) → ¬ HasLeft cmds → Allows version cmd → IsShaped line cmd → length cmds ≡ MOST_COMMANDS → IsBadCommand version registers fields cmds line TooManyCommands
  operand : (cmd : Cmd) (kind : Kind) → ¬ HasLeft cmds → Allows version cmd → IsShaped line cmd → length cmds < MOST_COMMANDS → AreWrong (limits_of registers fields cmd) (drop 1 line) kind → IsBadCommand version registers fields cmds line kind

-- what is wrong with the words of a line behind such lines; which place it is in, the lines before it tell
pub data Fits (before : List (List (List ℕ))) (line : List (List ℕ)) : Kind → Type 0 where
  no_header : before ≡ [] → ((version : ℕ) → IsVersion version → line ≢ header version) → Fits before line NoHeader
  bad_heap : (version : ℕ) → IsVersion version → before ≡ header version ∷ [] → ((slots fields registers : ℕ) → IsHeap slots fields registers → line ≢ heap_line slots fields registers) → Fits before line BadHeap
  no_mutator : (version slots fields registers : ℕ) → IsVersion version → IsHeap slots fields registers → before ≡ header version ∷ heap_line slots fields registers ∷ [] → line ≢ mutator_line → Fits before line NoMutator
  too_many_mutators : (contents : ScriptContents) → IsScript contents → before ≡ spelled contents → line ≡ mutator_line → length contents.commands ≡ most_mutators contents.version → Fits before line TooManyMutators
  bad_command : (contents : ScriptContents) (kind : Kind) → IsScript contents → before ≡ spelled contents → line ≢ mutator_line → IsBadCommand contents.version contents.registers contents.fields (last_commands contents.commands) line kind → Fits before line kind

-- what is wrong with a line behind lines of which these count: it isn't UTF-8; else it counts, and its words are wrong
pub data IsFault (before : List (List (List ℕ))) (line : List ℕ) : Kind → Type 0 where
  not_utf8 : ¬ IsUtf8 line → IsFault before line NotUtf8
  bad_words : (kind : Kind) → IsUtf8 line → is_counted (words line) ≡ true → Fits before (words line) kind → IsFault before line kind

-- line n, from 0, is the first that no script continues
pub record StopsAt (text : List (List ℕ)) (n : ℕ) (kind : Kind) : Type 0 where
  pub there : n < length text
  pub before : Continues (take n text)
  pub not_with : ¬ Continues (take (n + 1) text)
  pub fault : IsFault (counted (take n text)) (get_or text n []) kind

-- the need that stands open behind lines that some further lines make a script's text of
pub data IsNeed (before : List (List (List ℕ))) : Kind → Type 0 where
  of_header : before ≡ [] → IsNeed before NoHeader
  of_heap : (version : ℕ) → IsVersion version → before ≡ header version ∷ [] → IsNeed before BadHeap
  of_mutator : (version slots fields registers : ℕ) → IsVersion version → IsHeap slots fields registers → before ≡ header version ∷ heap_line slots fields registers ∷ [] → IsNeed before NoMutator

-- all lines together are continued by some script, and spell none
pub record StaysOpen (text : List (List ℕ)) (kind : Kind) : Type 0 where
  pub before : Continues text
  pub not_whole : (contents : ScriptContents) → ¬ Spells text contents
  pub need : IsNeed (counted text) kind

-- bytes past the limit are refused first, with line 0
pub record IsTooLong (bytes : List ℕ) (line : ℕ) (kind : Kind) : Type 0 where
  pub many : MOST_BYTES < length bytes
  pub whole : line ≡ 0
  pub named : kind ≡ TooLong

-- else the first line that no script continues is named, or the line behind the last one
pub record IsStopped (bytes : List ℕ) (line : ℕ) (kind : Kind) : Type 0 where
  pub few : length bytes ≤ MOST_BYTES
  pub named : ((n : ℕ) × (line ≡ n + 1) × StopsAt (lines bytes) n kind) ⊎ ((line ≡ length (lines bytes) + 1) × StaysOpen (lines bytes) kind)

-- the bytes are refused with this line and this kind
abbrev pub IsRefused : List ℕ → (line : ℕ) → Kind → Type 0
IsRefused bytes line kind = IsTooLong bytes line kind ⊎ IsStopped bytes line kind

-- the name of a kind
abbrev pub name_of : Kind → List ℕ
name_of TooLong = codes "TooLong"
name_of NotUtf8 = codes "NotUtf8"
name_of NoHeader = codes "NoHeader"
name_of BadHeap = codes "BadHeap"
name_of NoMutator = codes "NoMutator"
name_of BadCommand = codes "BadCommand"
name_of TooManyMutators = codes "TooManyMutators"
name_of TooManyCommands = codes "TooManyCommands"
name_of BadNumber = codes "BadNumber"
name_of Register = codes "Register"
name_of Field = codes "Field"
name_of BadImage = codes "BadImage"
