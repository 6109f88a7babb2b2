-- What a source told of all its bytes.
use Rattle.std.specs.Prelude.{◌≡◌, ℕ, List, [], Option, Some}
use Rattle.std.specs.Option.{ForSome}

-- where a rest was told, nothing is left
abbrev pub IsAtEnd : Option (List ℕ) → Option (List ℕ) → Type 0
IsAtEnd before after = ForSome before (λ rest. after ≡ Some [])
