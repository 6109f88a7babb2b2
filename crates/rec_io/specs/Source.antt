-- What a read answers, and what it does to the rest of a source.
use Rattle.std.specs.Prelude.{◌≡◌, ℕ, ◌≤◌, List, [], ◌++◌, length, take, drop, ⊤, Option, Some}
use Rattle.std.specs.Option.{ForSome}
use Rattle.rec_io.specs.declared.source.Given.{Given}
use Rattle.rec_io.specs.declared.source.Given.TheVariants.{Bytes, End, Failed}

-- P of the number of bytes, where the answer is that bytes were given
abbrev pub IfGiven : Given → (ℕ → Type 0) → Type 0
IfGiven (Bytes n) P = P n
IfGiven End P = ⊤
IfGiven Failed P = ⊤

-- P, where the answer is the end
abbrev pub OnEnd : Given → Type 0 → Type 0
OnEnd (Bytes n) P = ⊤
OnEnd End P = P
OnEnd Failed P = ⊤

-- P, where the answer is that the read failed
abbrev pub OnReadFailed : Given → Type 0 → Type 0
OnReadFailed (Bytes n) P = ⊤
OnReadFailed End P = ⊤
OnReadFailed Failed P = P

-- the n bytes in front of `into` are the first n of the rest that was told, and what follows them is told as the new rest
pub record GivesFront (before after : Option (List ℕ)) (n : ℕ) (into : List ℕ) : Type 0 where
  pub within : ForSome before (λ rest. n ≤ length rest)
  pub bytes : ForSome before (λ rest. take n into ≡ take n rest)
  pub moves_on : ForSome before (λ rest. after ≡ Some (drop n rest))

-- the rest that was told is empty, and is told as empty afterwards
pub record IsSpent (before after : Option (List ℕ)) : Type 0 where
  pub empty : ForSome before (λ rest. rest ≡ [])
  pub told : ForSome before (λ rest. after ≡ Some [])

-- a rest begins with these bytes, and what follows them is told as the new rest
pub record BeginsWith (rest bytes : List ℕ) (after : Option (List ℕ)) : Type 0 where
  pub left : List ℕ
  pub told : after ≡ Some left
  pub front : rest ≡ bytes ++ left

-- over any number of reads: the rest that was told began with these bytes, and what follows them is told as the new rest
abbrev pub Passes : Option (List ℕ) → Option (List ℕ) → List ℕ → Type 0
Passes before after bytes = ForSome before (λ rest. BeginsWith rest bytes after)
