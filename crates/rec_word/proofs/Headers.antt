-- The header of a new object.
use Rattle.std.proofs.Common.{◌≡◌, ℕ, ◌^◌, ◌<◌, Bool, true, false, arith}
use Rattle.std.proofs.lemmas.Bool.Decides.{nat_tests}
use Rattle.rec_word.specs.Header.{header_word, is_leaf, IsHeaderOf, IsTakenHeader}

-- it tells what it is made of
pub header_is : (leaf : Bool) (label : ℕ) → label < 2 ^ 32 → IsHeaderOf leaf label (header_word leaf label)
header_is true label fits = record { leaf = grind (arith, nat_tests); label = omega (arith, fits) }
header_is false label fits = record { leaf = grind (arith, nat_tests, fits); label = omega (arith, fits) }

-- it is a taken slot's
pub header_taken : (leaf : Bool) (label : ℕ) → label < 2 ^ 32 → IsTakenHeader (header_word leaf label)
header_taken true label fits = record { some = omega (arith, fits); few = omega (arith, fits); small = omega (arith, fits) }
header_taken false label fits = record { some = omega (arith, fits); few = omega (arith, fits); small = omega (arith, fits) }

-- a leaf's header is one of a taken slot
pub leaf_taken : (header : ℕ) → is_leaf header ≡ true → 0 < header
leaf_taken header leaf = grind (arith, nat_tests, leaf)
