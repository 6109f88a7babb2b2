-- The lines of a journal, and the text that they have.
use Rattle.std.specs.Prelude.{ℕ, ◌<◌, ◌^◌, List, [], ◌∷◌, ◌++◌, All, codes}
use Rattle.std.specs.Fmt.{decimal}
use Rattle.std.specs.List.{flat_map}
use Rattle.rec_audit.specs.declared.kind.Kind.{Kind}
use Rattle.rec_audit.specs.declared.kind.Kind.TheVariants.{Title, Heap, Epoch, Put, Born, Snap, Out, Free, Sweep, End}

-- a line: what kind it is of, and its numbers in order
pub record Line : Type 0 where
  pub kind : Kind
  pub numbers : List ℕ

-- what the lines of a kind begin with
abbrev pub name_of : Kind → List ℕ
name_of Title = codes "recycler audit"
name_of Heap = codes "heap"
name_of Epoch = codes "epoch"
name_of Put = codes "put"
name_of Born = codes "born"
name_of Snap = codes "snap"
name_of Out = codes "out"
name_of Free = codes "free"
name_of Sweep = codes "sweep"
name_of End = codes "end"

-- numbers of 64 bits
abbrev pub AreNumbers : List ℕ → Type 0
AreNumbers numbers = All (λ n. n < 2 ^ 64) numbers

-- numerals in decimal, without leading zeros, each with one space in front
abbrev pub numerals : List ℕ → List ℕ
numerals numbers = flat_map (λ n. 32 ∷ decimal n) numbers

-- the text of a line ends with an LF
abbrev pub text_of_line : Line → List ℕ
text_of_line line = name_of line.kind ++ (numerals line.numbers ++ 10 ∷ [])

-- the text of lines is that of one after the other
abbrev pub text_of : List Line → List ℕ
text_of lines = flat_map text_of_line lines
