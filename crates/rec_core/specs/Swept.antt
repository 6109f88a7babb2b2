-- What a turn of the collector shows of its sweep.
use Rattle.std.specs.Prelude.{◌≡◌, ℕ, ◌+◌, ◌%◌, ◌<◌, Option, Some, length, slice_set}
use Rattle.rec_word.specs.declared.op.Op.{Op}
use Rattle.rec_word.specs.declared.op.Op.TheVariants.{FreeHeader, AddFreed}
use Rattle.rec_model.specs.Sight.{IsTaken, Reaches}
use Rattle.rec_collector.specs.Kept.{swept_at}
use Rattle.rec_collector.specs.Next.{next_of}
use Rattle.rec_core.specs.Core.{Core, sight}

-- how many slots the sweep under way has freed
abbrev pub swept : Core → ℕ
swept w = swept_at w.collector.phase

-- an operation, or none, that neither begins or ends a sweep nor frees a slot
abbrev pub SweepsNothing : Option Op → Type 0
SweepsNothing (Some AddFreed) = ⊥
SweepsNothing (Some (FreeHeader slot)) = ⊥
SweepsNothing _ = Unit {0}

-- A turn frees nothing, or begins or ends a sweep, or frees a slot, and which it does its operation tells.
pub data IsSweep (before after : Core) : Type 0 where
  -- no header changed, and no sweep began or ended
  rests : SweepsNothing (next_of before.collector) → after.headers ≡ before.headers → after.freed ≡ before.freed → (0 < swept after → 0 < swept before) → IsSweep before after
  -- a sweep began, or one ended that has freed a slot
  marks : next_of before.collector ≡ Some AddFreed → after.headers ≡ before.headers → after.freed ≡ before.freed + 1 → (before.freed % 2 ≡ 1 → 0 < swept before) → swept after ≡ 0 → IsSweep before after
  -- within a sweep, a slot with an object that no register reaches was freed
  frees : (slot : ℕ) → next_of before.collector ≡ Some (FreeHeader slot) → slot < length before.headers → IsTaken (sight before) slot → (Reaches (sight before) slot → ⊥) → before.freed % 2 ≡ 1
      → after.headers ≡ slice_set before.headers slot 0 → after.freed ≡ before.freed → IsSweep before after
