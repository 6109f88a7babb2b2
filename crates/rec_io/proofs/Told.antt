-- On what is told, or not.
use Rattle.std.proofs.Common.{◌≡◌, ℕ, List, None, Some, subst}
use Rattle.std.specs.Option.{ForSome}

-- where nothing is told, whatever is said of bytes that are told holds
pub untold : (P : List ℕ → Type 0) (bytes : List ℕ) → None ≡ Some bytes → P bytes
untold P bytes told = cc

-- where bytes are told, what holds of them is said
pub told : (P : List ℕ → Type 0) (bytes : List ℕ) → P bytes → ForSome (Some bytes) P
told P bytes p other e = let same : bytes ≡ other = cc in subst P same p
