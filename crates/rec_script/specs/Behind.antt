-- The mutators of a script whose heap is told before: lines that spell them, and of others the first one with which no such mutators go on.
use Rattle.std.specs.Prelude.{◌≡◌, ◌⊎◌, ℕ, ◌+◌, ◌-◌, ◌<◌, ◌≤◌, List, [], ◌∷◌, ◌++◌, get_or, length, replicate, take}
use Rattle.rec_script.specs.declared.error.Kind.{Kind}
use Rattle.rec_script.specs.declared.error.Kind.TheVariants.{NoMutator, TooManyMutators}
use Rattle.rec_script.specs.declared.draft.Draft.{Draft}
use Rattle.rec_script.specs.declared.draft.Draft.TheVariants.{Whole}
use Rattle.rec_script.specs.Lines.{AreUtf8, counted, lines, words}
use Rattle.rec_script.specs.Script.{ScriptContents, IsFault, IsScript, header, heap_line, mutator_line, spelled}

-- the heap's numbers, and how many mutators it has
pub record Numbers : Type 0 where
  pub slots : ℕ
  pub fields : ℕ
  pub registers : ℕ
  pub mutators : ℕ

-- the lines that would stand above the mutators in a script of version 3
abbrev pub heading : Numbers → List (List (List ℕ))
heading h = header 3 ∷ heap_line h.slots h.fields h.registers ∷ []

-- these lines spell the mutators of this script, of which there are no more than the heap has
pub record SpellsMutators (h : Numbers) (text : List (List ℕ)) (contents : ScriptContents) : Type 0 where
  pub utf8 : AreUtf8 text
  pub counted_are : heading h ++ counted text ≡ spelled contents
  pub limits : IsScript contents
  pub few : length contents.commands ≤ h.mutators

-- with no commands for the mutators that aren't given
abbrev pub with_all : Numbers → ScriptContents → ScriptContents
with_all h contents = record contents { commands = contents.commands ++ replicate (h.mutators - length contents.commands) [] }

-- the bytes are some such mutators
abbrev pub AreMutators : Numbers → List ℕ → Type 0
AreMutators h bytes = (contents : ScriptContents) × SpellsMutators h (lines bytes) contents

-- some further lines make such mutators of these
abbrev pub GoOn : Numbers → List (List ℕ) → Type 0
GoOn h before = (after : List (List ℕ)) × (contents : ScriptContents) × SpellsMutators h (before ++ after) contents

-- what is wrong with a line behind lines of which these count: what is wrong with it in a script, or it is one mutator more than the heap has
pub data IsWrongLine (h : Numbers) (before : List (List (List ℕ))) (line : List ℕ) : Kind → Type 0 where
  fault : (kind : Kind) → IsFault before line kind → IsWrongLine h before line kind
  one_more : (contents : ScriptContents) → IsScript contents → before ≡ spelled contents → words line ≡ mutator_line → length contents.commands ≡ h.mutators → IsWrongLine h before line TooManyMutators

-- line n, from 0, is the first with which no such mutators go on
pub record StopsBehind (h : Numbers) (text : List (List ℕ)) (n : ℕ) (kind : Kind) : Type 0 where
  pub there : n < length text
  pub before : GoOn h (take n text)
  pub not_with : ¬ GoOn h (take (n + 1) text)
  pub wrong : IsWrongLine h (heading h ++ counted (take n text)) (get_or text n []) kind

-- all lines together go on, and are no such mutators: there is none
pub record StaysOpenBehind (h : Numbers) (text : List (List ℕ)) (kind : Kind) : Type 0 where
  pub before : GoOn h text
  pub not_whole : (contents : ScriptContents) → ¬ SpellsMutators h text contents
  pub need : kind ≡ NoMutator

-- The bytes, which follow this line, are refused with this number and this kind.
abbrev pub IsRefusedBehind : Numbers → List ℕ → (line number : ℕ) → Kind → Type 0
IsRefusedBehind h bytes line number kind =
    ((n : ℕ) × (number ≡ line + n + 1) × StopsBehind h (lines bytes) n kind) ⊎ ((number ≡ line + length (lines bytes) + 1) × StaysOpenBehind h (lines bytes) kind)

-- how many mutators a draft has
abbrev pub mutators_in : Draft → ℕ
mutators_in (Whole script) = length script.commands
mutators_in _ = 0

-- the first of these lines is that of a mutator
pub record BeginsMutator (text : List (List ℕ)) : Type 0 where
  pub line : List ℕ
  pub others : List (List ℕ)
  pub first : text ≡ line ∷ others
  pub is : words line ≡ mutator_line
