-- What a move leaves of what registers reach.
use Rattle.std.specs.Prelude.{◌≡◌, ◌⊎◌, ℕ, slice_index_or}
use Rattle.rec_model.specs.Sight.{Sight, Reaches, words_of}

-- Every slot that a register reached keeps its header and its words, the registers stay, and no slot gets a header.
pub record KeepsReached (before after : Sight) : Type 0 where
  pub fields : after.fields ≡ before.fields
  pub registers : after.registers ≡ before.registers
  pub reached : (slot : ℕ) → Reaches before slot → (slice_index_or after.headers slot 0 ≡ slice_index_or before.headers slot 0) × (words_of after slot ≡ words_of before slot)
  pub others : (slot : ℕ) → (slice_index_or after.headers slot 0 ≡ slice_index_or before.headers slot 0) ⊎ (slice_index_or after.headers slot 0 ≡ 0)
