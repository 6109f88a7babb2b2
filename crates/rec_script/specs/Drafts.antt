-- What the lines so far have spelled, while a text is read.
use Rattle.std.specs.Prelude.{◌≡◌, ◌<◌, List, ℕ, [], ◌∷◌, ◌++◌, length}
use Rattle.std.specs.Str.{IsUtf8}
use Rattle.rec_script.specs.declared.error.Kind.{Kind}
use Rattle.rec_script.specs.Lines.{lines, counted}
use Rattle.rec_script.specs.declared.draft.Draft.{Draft}
use Rattle.rec_script.specs.declared.draft.Draft.TheVariants.{Nothing, Header, Sized, Whole}
use Rattle.rec_script.specs.Script.{IsFault, IsHeap, IsScript, IsVersion, header, heap_line, spelled}

-- the lines that count
abbrev pub so_far : Draft → List (List (List ℕ))
so_far Nothing = []
so_far (Header version) = header version ∷ []
so_far (Sized version heap) = header version ∷ heap_line heap.slots heap.fields heap.registers ∷ []
so_far (Whole script) = spelled script

-- its numbers are within their limits
abbrev pub IsDraft : Draft → Type 0
IsDraft Nothing = Unit {0}
IsDraft (Header version) = IsVersion version
IsDraft (Sized version heap) = IsVersion version × IsHeap heap.slots heap.fields heap.registers
IsDraft (Whole script) = IsScript script

-- the first line of these bytes was taken behind lines of which some counted: its text, what is behind it, and what counts with it
pub record IsTaken (bytes rest : List ℕ) (before after : List (List (List ℕ))) : Type 0 where
  pub line : List ℕ
  pub first : lines bytes ≡ line ∷ lines rest
  pub utf8 : IsUtf8 line
  pub more : after ≡ before ++ counted (line ∷ [])
  pub less : length rest < length bytes

-- the first of these lines is wrong behind lines of which some counted
pub record IsWrongFirst (text : List (List ℕ)) (before : List (List (List ℕ))) (kind : Kind) : Type 0 where
  pub line : List ℕ
  pub others : List (List ℕ)
  pub first : text ≡ line ∷ others
  pub fault : IsFault before line kind
