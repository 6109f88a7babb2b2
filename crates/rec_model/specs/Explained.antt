-- When every heap that stood for what was seen explains what a command was told.
use Rattle.std.specs.Prelude.{◌≡◌, ℕ, ◌==◌, if◌then◌else◌, length}
use Rattle.rec_model.specs.declared.command.Cmd.{Cmd}
use Rattle.rec_model.specs.declared.told.Told.{Told}
use Rattle.rec_model.specs.Heap.{Heap}
use Rattle.rec_model.specs.Asking.{asked, IsTold}
use Rattle.rec_model.specs.Sight.{Sight, IsTaken, StandsBy}

-- a numbering with another number for one slot
abbrev pub with_number : (ℕ → ℕ) → (slot object : ℕ) → ℕ → ℕ
with_number number slot object s = if s == slot then object else number s

-- A heap stands for what is seen after a command by numbers that go on from those before: each object keeps its own, and
-- what stands in a slot that was free is the next object.
pub record GoesOnBy (heap : Heap) (before after : Sight) (number later : ℕ → ℕ) (next : ℕ) : Type 0 where
  pub stands : StandsBy heap after later
  pub kept : (s : ℕ) → IsTaken before s → IsTaken after s × (later s ≡ number s)
  pub born : (s : ℕ) → IsTaken after s → (IsTaken before s → ⊥) → later s ≡ next

-- Whatever heap stood for what was seen before, what was told is what asking it gives, and what it then is stands for what is
-- seen after, by numbers that go on from those before.
abbrev pub IsExplained : (before : Sight) → (t : ℕ) → Cmd → Told → (after : Sight) → Type 0
IsExplained before t cmd told after =
    (heap : Heap) (number : ℕ → ℕ) → StandsBy heap before number
    → IsTold before.fields heap t cmd told × ((later : ℕ → ℕ) × GoesOnBy (asked before.fields heap t cmd told).heap before after number later (length heap.objects))
