-- What the collector still has to look at, and what hangs on that.
use Rattle.std.specs.Prelude.{◌≡◌, ℕ, ◌+◌, ◌<◌, true, false, map, slice_index_or}
use Rattle.rec_core.specs.Pending.{has_batched}
use Rattle.std.specs.List.{concat}
use Rattle.rec_model.specs.Sight.{Sight, IsTaken}
use Rattle.rec_log.specs.declared.contents.Contents.{Contents}
use Rattle.rec_counts.specs.Colour.{is_green, is_purple}
use Rattle.rec_counts.specs.Counts.{State, slot_at}
use Rattle.rec_counts.specs.Lists.{times}
use Rattle.rec_counts.specs.Targets.{named, old_target}
use Rattle.rec_collector.specs.Private as collectors
use Rattle.rec_core.specs.Core.{Core, nobody, sight}
use Rattle.rec_prompt.specs.Lost.{Leads}

-- how many of its references a batch takes off the slot by this buffer: the targets that its writes replaced, its births, its snapshot
abbrev pub takes : (slot : ℕ) → Contents → ℕ
takes slot b = named slot (map old_target b.entries) + named slot b.snapshot

-- A batch to come takes something off the slot: by a log, by what a mailbox holds, by a newer buffer, or, until the batch, by an older one.
pub data IsPending (w : Core) (slot : ℕ) : Type 0 where
  log : (i : ℕ) → 0 < takes slot (slice_index_or w.mutators i nobody).log → IsPending w slot
  mailbox : (i : ℕ) → 0 < takes slot (slice_index_or w.boxes i (collectors.blank 0 0)) → IsPending w slot
  newer : (i : ℕ) → 0 < takes slot (collectors.buffer_at w.collector.newer i) → IsPending w slot
  older : has_batched w.collector.phase ≡ false → (i : ℕ) → 0 < takes slot (collectors.buffer_at w.collector.older i) → IsPending w slot

-- The slot is in one of the collector's lists: it is released, it is a zero, a Purple candidate root or a member of a set, or a trial has
-- marked it.
pub data IsListed (s : State) (slot : ℕ) : Type 0 where
  released : (slot_at s slot).released ≡ true → IsListed s slot
  zero : 0 < times slot s.zeros → IsListed s slot
  root : 0 < times slot s.roots → is_purple (slot_at s slot).colour ≡ true → IsListed s slot
  member : 0 < times slot (concat s.sets) → IsListed s slot
  marked : 0 < times slot s.marked → IsListed s slot

-- The slot hangs on what is pending or listed: it is so itself, or fields lead to it from such a slot.
pub data Hangs (w : Sight) (pending : ℕ → Type 0) (s : State) : (slot : ℕ) → Type 0 where
  later : {slot : ℕ} → pending slot → Hangs w pending s slot
  listed : {slot : ℕ} → IsListed s slot → Hangs w pending s slot
  behind : {from slot : ℕ} → Hangs w pending s from → Leads w from slot → Hangs w pending s slot

-- Each slot that holds an object hangs on what is pending or listed, unless it is Green.
abbrev pub Covers : Sight → (pending : ℕ → Type 0) → State → Type 0
Covers w pending s = (slot : ℕ) → IsTaken w slot → is_green (slot_at s slot).colour ≡ false → Hangs w pending s slot

-- the same of a heap with its collector
abbrev pub IsCovered : Core → Type 0
IsCovered w = Covers (sight w) (IsPending w) w.collector.counts

-- how many sets were refused as one of their members was touched: the batch before the test had added to it or taken off it
abbrev pub touched_sets : Core → ℕ
touched_sets w = w.collector.sets.delta

-- how many sets were refused, of those that were tested
abbrev pub refused_sets : Core → ℕ
refused_sets w = w.collector.sets.delta + w.collector.sets.sigma
