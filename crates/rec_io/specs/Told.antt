-- What a source tells of the bytes that are left, or a sink of the bytes that it holds: `None` tells nothing.
use Rattle.std.specs.Prelude.{◌≡◌, ℕ, List, IsSome, Option, Some}
use Rattle.std.specs.Option.{ForSome}

-- what was told is told afterwards, and is the same
abbrev pub KeepsTold : Option (List ℕ) → Option (List ℕ) → Type 0
KeepsTold before after = ForSome before (λ bytes. after ≡ Some bytes)

-- where something was told, something is told afterwards
abbrev pub StaysTold : Option (List ℕ) → Option (List ℕ) → Type 0
StaysTold before after = IsSome before → IsSome after
