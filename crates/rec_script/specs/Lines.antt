-- The lines of a text, and the words of a line.
use Rattle.std.specs.Prelude.{ℕ, Bool, true, false, not, List, [], ◌∷◌, ◌++◌, map, filter, ◌==◌, ◌||◌, if◌then◌else◌, get_or, All}
use Rattle.std.specs.Str.{IsUtf8}

-- the byte LF
abbrev pub is_end : ℕ → Bool
is_end c = c == 10

-- a space or a tab
abbrev pub is_blank : ℕ → Bool
is_blank c = (c == 32) || (c == 9)

-- a byte put in front of the first piece
abbrev pub in_front : ℕ → List (List ℕ) → List (List ℕ)
in_front c [] = (c ∷ []) ∷ []
in_front c (piece ∷ pieces) = (c ∷ piece) ∷ pieces

-- the bytes cut at each byte of a kind; what follows the last of these, if anything, is a piece too
abbrev pub cut : (ℕ → Bool) → List ℕ → List (List ℕ)
cut cuts [] = []
cut cuts (c ∷ cs) = if cuts c then [] ∷ cut cuts cs else in_front c (cut cuts cs)

-- a line without the CR at its end
abbrev pub without_cr : List ℕ → List ℕ
without_cr [] = []
without_cr (c ∷ []) = if c == 13 then [] else c ∷ []
without_cr (c ∷ d ∷ cs) = c ∷ without_cr (d ∷ cs)

-- the lines of a text
abbrev pub lines : List ℕ → List (List ℕ)
lines bytes = map without_cr (cut is_end bytes)

-- a piece has a byte
abbrev pub is_some_word : List ℕ → Bool
is_some_word [] = false
is_some_word (c ∷ cs) = true

-- the words of a line: what stands between its blanks
abbrev pub words : List ℕ → List (List ℕ)
words line = filter is_some_word (cut is_blank line)

-- a line counts where it has words and the first one doesn't begin with `#`
abbrev pub is_counted : List (List ℕ) → Bool
is_counted [] = false
is_counted (word ∷ more) = not (get_or word 0 0 == 35)

-- the words of each line that counts
abbrev pub counted : List (List ℕ) → List (List (List ℕ))
counted text = filter is_counted (map words text)

-- words on a line of their own with one space between each two, and what is behind the line
abbrev pub spaced : List (List ℕ) → List ℕ → List ℕ
spaced [] rest = 10 ∷ rest
spaced (word ∷ []) rest = word ++ 10 ∷ rest
spaced (word ∷ next ∷ more) rest = word ++ 32 ∷ spaced (next ∷ more) rest

-- each line is UTF-8, also where it is skipped
abbrev pub AreUtf8 : List (List ℕ) → Type 0
AreUtf8 text = All IsUtf8 text
