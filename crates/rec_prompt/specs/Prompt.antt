-- What moves free, and how many collections they complete.
use Rattle.std.specs.Prelude.{◌≡◌, ℕ, ◌+◌, ◌≤◌, true, false, Option, Some, List, [], ◌∷◌}
use Rattle.rec_word.specs.declared.op.Op.{Op}
use Rattle.rec_word.specs.declared.op.Op.TheVariants.{FreeHeader}
use Rattle.rec_model.specs.Reach.{is_in}
use Rattle.rec_collector.specs.Next.{next_of}
use Rattle.rec_core.specs.Core.{Core, sight}
use Rattle.rec_core.specs.Moves.{Move, after_moves}
use Rattle.rec_core.specs.Run.{over}
use Rattle.rec_prompt.specs.Lost.{IsLost}

-- the slot that a turn of the collector frees, by its operation: it stores 0 in its header
abbrev pub freed_by : Option Op → List ℕ
freed_by (Some (FreeHeader slot)) = slot ∷ []
freed_by _ = []

abbrev pub freed_in : Core → Move → List ℕ
freed_in w Move.Turns = freed_by (next_of w.collector)
freed_in w _ = []

-- the slots that are freed over these moves, in order
abbrev pub freed_over : Core → List Move → List ℕ
freed_over w ms = over freed_in w ms

-- a turn among these moves frees the slot
abbrev pub IsFreed : Core → List Move → (slot : ℕ) → Type 0
IsFreed w ms slot = is_in slot (freed_over w ms) ≡ true

-- over these moves so many collections become complete, or more
abbrev pub Complete : (collections : ℕ) → Core → List Move → Type 0
Complete collections w ms = w.collector.collections + collections ≤ (after_moves w ms).collector.collections

-- the slot was lost in that state, and none of the moves since frees it
pub record IsLeft (w : Core) (ms : List Move) (slot : ℕ) : Type 0 where
  pub lost : IsLost (sight w) slot
  pub unfreed : is_in slot (freed_over w ms) ≡ false
