-- What is seen of a heap that counts late.
use Rattle.std.specs.Prelude.{◌≡◌, ℕ, ◌+◌, true}
use Rattle.rec_model.specs.Reach.{is_in}
use Rattle.rec_model.specs.Heap.{roots}
use Rattle.rec_model.specs.Sight.{Sight}
use Rattle.rec_model.specs.Pending.{Pending, Holds}

-- The field words are those seen, and what a register names is in a register of a mutator in some epoch.
pub record IsSightOf (w : Sight) (p : Pending) : Type 0 where
  pub fields : p.fields ≡ w.fields
  pub words : p.words ≡ w.words
  pub registers : (slot : ℕ) → is_in slot (roots w.registers) ≡ true → (epoch : ℕ) × Holds p epoch (slot + 1)
