-- What leads to a slot that was given up, and to one that is freed, told of the heap's own registers and field words.
use Rattle.std.specs.Prelude.{◌≡◌, ℕ, ◌<◌, false}
use Rattle.std.specs.List.{concat}
use Rattle.rec_model.specs.Heap.{roots}
use Rattle.rec_model.specs.Reach.{is_in}
use Rattle.rec_model.specs.Sight.{targets_of}
use Rattle.rec_counts.specs.Counts.{slot_at}
use Rattle.rec_counts.specs.Lists.{times}
use Rattle.rec_core.specs.Core.{Core, sight}

-- No register of any mutator names the slot, and no field of a slot that isn't given up leads to it.
pub record IsCutOff (w : Core) (slot : ℕ) : Type 0 where
  pub registers : is_in slot (roots (sight w).registers) ≡ false
  pub fields : (source : ℕ) → source < w.config.slots → (slot_at w.collector.counts source).released ≡ false → is_in slot (targets_of (sight w) source) ≡ false

-- No register of any mutator names the slot, no field of any slot leads to it, and it stands in no list of the collector but the free
-- list, and there once.
pub record IsClear (w : Core) (slot : ℕ) : Type 0 where
  pub registers : is_in slot (roots (sight w).registers) ≡ false
  pub fields : (source : ℕ) → is_in slot (targets_of (sight w) source) ≡ false
  pub in_roots : times slot w.collector.counts.roots ≡ 0
  pub in_sets : times slot (concat w.collector.counts.sets) ≡ 0
  pub in_marked : times slot w.collector.counts.marked ≡ 0
  pub in_work : times slot w.collector.counts.work ≡ 0
  pub in_zeros : times slot w.collector.counts.zeros ≡ 0
  pub in_free : times slot w.collector.counts.free ≡ 1
