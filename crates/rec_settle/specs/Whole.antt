-- What settling as a whole comes to.
use Rattle.std.specs.Prelude.{◌≡◌, ℕ, ◌+◌, ◌≤◌}
use Rattle.rec_word.specs.declared.word.TheConstants.{LAST_EPOCH}
use Rattle.rec_collector.specs.Kept.{under_way}
use Rattle.rec_core.specs.Core.{Core, sight}
use Rattle.rec_core.specs.Settled.{IsSettled}
use Rattle.rec_model.specs.Heap.{Heap}
use Rattle.rec_model.specs.Sight.{StandsBy}
use Rattle.rec_settle.specs.Collecting.{IsSettling, taken_slots}
use Rattle.rec_settle.specs.declared.whole.Settled.{Settled}

-- A heap was settled, which had more than three epochs left, and this is told of it.
pub record HasSettled (before after : Core) (told : Settled) : Type 0 where
  pub left : before.epoch + 4 ≤ LAST_EPOCH
  -- just what registers reach is taken, with true counts
  pub settled : IsSettled after
  -- it came to that by a collection for each of the epochs from the requested one on, and before them the one under way
  pub settles : IsSettling before after
  pub epochs : told.epochs ≡ 3 + under_way before.collector.phase
  pub requested : after.epoch ≡ before.epoch + 3
  pub freed : after.collector.freed ≡ before.collector.freed + told.freed
  pub live : told.live ≡ taken_slots after

-- Registers and births stay, and whatever heap that never frees stood for the world still does, by the same numbers of its objects.
pub record StaysSeen (before after : Core) : Type 0 where
  pub registers : (sight after).registers ≡ (sight before).registers
  pub stands : (heap : Heap) (number : ℕ → ℕ) → StandsBy heap (sight before) number → StandsBy heap (sight after) number
  pub made : after.made ≡ before.made
