-- Which objects are not freed: those in the taken slots.
use Rattle.std.specs.Prelude.{◌≡◌, ℕ, true, List}
use Rattle.rec_model.specs.Reach.{is_in}
use Rattle.rec_model.specs.Numbering.{IsDistinct}
use Rattle.rec_model.specs.Sight.{Sight, IsTaken}

-- The objects are all different, and are those that `number` names in the taken slots.
pub record AreUnfreed (w : Sight) (number : ℕ → ℕ) (unfreed : List ℕ) : Type 0 where
  pub distinct : IsDistinct unfreed
  pub there : (s : ℕ) → IsTaken w s → is_in (number s) unfreed ≡ true
  pub taken : (n : ℕ) → is_in n unfreed ≡ true → (s : ℕ) × IsTaken w s × (number s ≡ n)
