-- Where a turn of the collector has come to, before it says in which phase the collection goes on.
use Rattle.std.specs.Prelude.{◌≡◌, ◌⊎◌, ℕ, ◌-◌, ◌<◌, true, Option, None, Some, List, slice_index_or, length}
use Rattle.rec_core.proofs.Common.{place_of, IsAccounted, HasUncountedReleased, Pending, IsSound, State, slot_at, times, Begun, Phase, At, Member, Opening, Core, sight, SetsTest, HasMutators, IsLeft, IsLeftOf, freeing_due, one_if_sweeping, release_due, Handshake, IsKeptBy, stand_at, HasGreens, older_at, pending}
use Rattle.rec_counts.specs.Counts.{IsKept as IsKeptCounts}
use Rattle.rec_collector.specs.Kept as collector_kept
use Rattle.rec_collector.proofs.Clearing.{Clears}
use Rattle.rec_core.proofs.Counts.{accounts_with}

-- what is to be accounted for once the batch of the last epoch is applied
abbrev pub applied_pending : Core → Pending
applied_pending w = record (pending w) { applied = w.epoch - 1 }

-- what is to be accounted for with these field words and counts, once the batch of the last epoch is applied
abbrev pub landed_pending : Core → (words : List ℕ) → State → Pending
landed_pending w words s = record (accounts_with (pending w) words s) { applied = w.epoch - 1 }

-- the fields that are due in what was begun
abbrev pub begun_release : Option Phase → Option At
begun_release None = None
begun_release (Some phase) = release_due phase

abbrev pub begun_freeing : Option Phase → Option Member
begun_freeing None = None
begun_freeing (Some phase) = freeing_due phase

-- What is known where a collection has come to: with these field words and crossing words, these are the collector's parts, and what was
-- begun.
pub record HasLanded (w : Core) (crossing words : List ℕ) (b : Begun) : Type 0 where
  pub stands : (t : ℕ) → Handshake
  pub kept : IsKeptBy true stands w
  -- the collection is under way, and nothing is swept yet
  pub way : collector_kept.under_way w.collector.phase ≡ 1
  pub still : one_if_sweeping w.collector.phase ≡ 0
  pub older : older_at w.epoch w.collector.phase ≡ w.epoch - 2
  -- no mailbox is to be gathered
  pub mutators : HasMutators true w.config w.epoch (stand_at w.collector.left Opening) w.mutators crossing w.boxes
  -- the batch of the last epoch is applied
  pub accounted : IsAccounted (landed_pending w words b.parts.counts)
  pub uncounted : begun_freeing b.phase ≡ None → HasUncountedReleased (landed_pending w words b.parts.counts)
  pub sound : IsSound (sight (record w { words = words }))
  pub greens : HasGreens w.headers b.parts.counts
  pub many_words : length words ≡ length w.words
  pub slots : length b.parts.counts.slots ≡ w.config.slots
  pub fields : b.parts.fields ≡ w.config.fields
  pub policy : b.parts.policy ≡ w.config.policy
  pub counts : IsKeptCounts b.parts.counts
  -- what the free list has is released
  pub listed : (x : ℕ) → 0 < times x b.parts.counts.free → (slot_at b.parts.counts x).released ≡ true
  pub emptied : (x f : ℕ) → x < w.config.slots → f < w.config.fields → (slot_at b.parts.counts x).released ≡ true
      → IsLeft (begun_release b.phase) x f ⊎ (IsLeftOf b.parts.counts.work (begun_freeing b.phase) x f ⊎ (slice_index_or words (place_of x f w.config.fields) 0 ≡ 0))

-- What is known besides while slots are released and sets tested: so many fields were exchanged at most.
pub record HasCleared (w : Core) (crossing words : List ℕ) (b : Begun) : Type 0 where
  pub landed : HasLanded w crossing words b
  pub exchanged : ℕ
  pub clears : Clears b exchanged
  pub tests : SetsTest (landed_pending w words b.parts.counts) b.parts.counts
