-- When a heap is settled.
use Rattle.std.specs.Prelude.{◌≡◌, ℕ, ◌+◌, count_by, sum_by}
use Rattle.rec_word.specs.Word.{target_of, is_slot}
use Rattle.rec_model.specs.Sight.{IsTaken, IsCollected}
use Rattle.rec_counts.specs.Counts.{slot_at}
use Rattle.rec_core.specs.Core.{Core, sight}

-- how many fields hold the slot
abbrev pub fields_holding : Core → (slot : ℕ) → ℕ
fields_holding w slot = count_by (λ word. is_slot slot (target_of word)) w.words

-- how many registers hold it
abbrev pub registers_holding : Core → (slot : ℕ) → ℕ
registers_holding w slot = sum_by (count_by (is_slot slot)) (sight w).registers

-- Just the slots on a path of fields from a register hold objects, and the count of each is the number of fields and registers that
-- hold it.
pub record IsSettled (w : Core) : Type 0 where
  pub collected : IsCollected (sight w)
  pub counted : (slot : ℕ) → IsTaken (sight w) slot → (slot_at w.collector.counts slot).count ≡ fields_holding w slot + registers_holding w slot
