-- What the buffers of a heap with its collector hold: entries about places and slots of the heap, and each write under a stamp of its own.
use Rattle.std.specs.Prelude.{◌≡◌, ℕ, ◌-◌, ◌*◌, ◌<◌, ◌≤◌, ◌^◌, Bool, true, false, if◌then◌else◌, None, Some, List, length, slice_index_or}
use Rattle.rec_core.specs.Pending.{has_batched}
use Rattle.rec_word.specs.Word.{stamp_of, target_bits}
use Rattle.rec_log.specs.declared.contents.Contents.{Contents}
use Rattle.rec_log.specs.declared.entry.Entry.{Entry}
use Rattle.rec_log.specs.declared.entry.Entry.TheVariants as entries
use Rattle.rec_collector.specs.Private.{Private, buffer_at}
use Rattle.rec_collector.specs.declared.phase.Phase.{Phase}
use Rattle.rec_collector.specs.declared.phase.Phase.TheVariants.{Idle, Looking, Returning, Swapping}
use Rattle.rec_core.specs.Config.{IsMutator}
use Rattle.rec_core.specs.Core.{Core, box, mutator}
use Rattle.rec_core.specs.declared.config.Config.{Config}

-- a word of 64 bits that leads to a slot of the heap, or nowhere
pub record IsFieldWord (config : Config) (word : ℕ) : Type 0 where
  pub leads : target_bits word ≤ config.slots
  pub fits : word < 2 ^ 64

-- A write of this mutator: the word that it put bears the mutator's number, and at which place of the log the write stands.
pub record IsOwnWrite (config : Config) (t index place new old : ℕ) : Type 0 where
  pub within : place < config.slots * config.fields
  pub puts : IsFieldWord config new
  pub finds : IsFieldWord config old
  pub writer : (stamp_of new).writer ≡ t
  pub number : (stamp_of new).index ≡ index

abbrev pub IsOwnEntry : Config → (t index : ℕ) → Entry → Type 0
IsOwnEntry config t index (entries.Put place new old) = IsOwnWrite config t index place new old
IsOwnEntry config t index (entries.Born slot leaf) = slot < config.slots

-- a buffer that this mutator filled: its entries, and what its registers named
pub record IsOwnBuffer (config : Config) (t : ℕ) (b : Contents) : Type 0 where
  pub entries : (index : ℕ) (d : Entry) → index < length b.entries → IsOwnEntry config t index (slice_index_or b.entries index d)
  pub held : (r slot : ℕ) → slice_index_or b.snapshot r None ≡ Some slot → slot < config.slots

-- Each field's word is one of the heap, and each mutator's log, what its mailbox holds and what the collector gathered from it is its own.
pub record HasOwnBuffers (w : Core) : Type 0 where
  pub words : (place : ℕ) → IsFieldWord w.config (slice_index_or w.words place 0)
  pub logs : (t : ℕ) → IsMutator w.config t → IsOwnBuffer w.config t (mutator w t).log
  pub boxes : (t : ℕ) → IsMutator w.config t → IsOwnBuffer w.config t (box w t)
  pub newer : (t : ℕ) → IsMutator w.config t → IsOwnBuffer w.config t (buffer_at w.collector.newer (t - 1))

-- the newer buffers of the last batch: once the next collection gathers, and where this one is complete, they are the older ones
abbrev pub last_batch : Private → List Contents
last_batch p = if has_batched p.phase then p.newer else p.older
