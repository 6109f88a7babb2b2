-- The stamps of a heap's log entries, and the words that bear them.
use Rattle.std.proofs.Common.{◌≡◌, ℕ, Option, None, Some, arith}
use Rattle.rec_word.specs.Word.{packed, target_of, stamp_of, IsStamp, IsTarget}
use Rattle.rec_word.specs.declared.stamps.Stamp.{Stamp}

-- unpacking a packed word gives its target
pub target_of-packed : (target : Option ℕ) (stamp : Stamp) → IsTarget target → IsStamp stamp → target_of (packed target stamp) ≡ target
target_of-packed None stamp there fits = grind arith
target_of-packed (Some slot) stamp there fits = grind arith

-- unpacking a packed word gives its stamp
pub stamp_of-packed : (target : Option ℕ) (stamp : Stamp) → IsTarget target → IsStamp stamp → stamp_of (packed target stamp) ≡ stamp
stamp_of-packed None stamp there fits = grind arith
stamp_of-packed (Some slot) stamp there fits = grind arith
