-- What a write answers, and what it does to the bytes that a sink holds.
use Rattle.std.specs.Prelude.{◌≡◌, ℕ, List, ◌++◌, ⊤, Option, Some}
use Rattle.std.specs.Option.{ForSome}
use Rattle.rec_io.specs.declared.sink.Taken.{Taken}
use Rattle.rec_io.specs.declared.sink.Taken.TheVariants.{Bytes, Failed}

-- P of the number of bytes, where the answer is that bytes were taken
abbrev pub IfTaken : Taken → (ℕ → Type 0) → Type 0
IfTaken (Bytes n) P = P n
IfTaken Failed P = ⊤

-- P, where the answer is that the write failed
abbrev pub OnWriteFailed : Taken → Type 0 → Type 0
OnWriteFailed (Bytes n) P = ⊤
OnWriteFailed Failed P = P

-- the bytes that were told as written are told with `bytes` behind them
abbrev pub Appends : Option (List ℕ) → Option (List ℕ) → List ℕ → Type 0
Appends before after bytes = ForSome before (λ written. after ≡ Some (written ++ bytes))
