-- The journals of runs: the numbers of a heap, where its collector stands, and what a block tells of its epoch.
use Rattle.std.specs.Prelude.{◌≡◌, ◌⊎◌, ℕ, ◌+◌, ◌<◌, true, List, [], ◌∷◌, slice_index_or}
use Rattle.std.specs.List.{Contains}
use Rattle.rec_word.specs.Bare.{bare}
use Rattle.rec_model.specs.Pending.{Dated, Write, epoch_of}
use Rattle.rec_model.specs.Reach.{is_in}
use Rattle.rec_model.specs.References.{IsInReach}
use Rattle.rec_collector.specs.Private.{Private}
use Rattle.rec_core.specs.Core.{Core}
use Rattle.rec_core.specs.Pending.{applied_at, births_of, pending, snapshots_of, writes_of, has_batched}
use Rattle.rec_core.specs.declared.config.Config.{Config}
use Rattle.rec_audit.specs.Graph.{IsReachedAt}
use Rattle.rec_audit.specs.Journal.{line_of}
use Rattle.rec_audit.specs.Keeping.{Place}
use Rattle.rec_audit.specs.Lines.{Line}
use Rattle.rec_audit.specs.declared.form.Heap.{Heap}
use Rattle.rec_audit.specs.declared.kind.Kind.TheVariants as kinds

-- a heap with these numbers
abbrev pub heap_for : Config → Heap
heap_for config = record { slots = config.slots; fields = config.fields; registers = config.registers; mutators = config.mutators; first = config.first_epoch }

-- where a collector stands: behind the epoch of its last batch
abbrev pub place_of : Private → Place
place_of p = record { next = applied_at p.epoch p.phase + 1; working = has_batched p.phase }

-- a slot is in the reach of the epoch of the last batch, or is free
abbrev pub IsReachedIn : Core → (slot : ℕ) → Type 0
IsReachedIn w slot = IsInReach (pending w) (pending w).applied (slot + 1) ⊎ (slice_index_or w.headers slot 0 ≡ 0)

-- The graph of these lines reaches just what the references of the epoch of the last batch reach, and the free slots.
pub record ReachesAsRun (w : Core) (lines : List Line) : Type 0 where
  pub within : (slot : ℕ) → IsReachedAt lines slot → IsReachedIn w slot
  pub whole : (slot : ℕ) → slot < w.config.slots → IsReachedIn w slot → IsReachedAt lines slot

-- These lines tell all that mutators did in an epoch, as the buffers of this heap have it: each write, with its bare words, each birth by
-- its slot, and each object that a register held as its mutator left the epoch, by its slot plus one.
pub record TellEpoch (w : Core) (epoch : ℕ) (lines : List Line) : Type 0 where
  pub writes : (x : Write) → Contains (writes_of w) x → epoch_of x.new ≡ epoch
      → (t : ℕ) × Contains lines (line_of kinds.Put (t ∷ x.place ∷ bare x.new ∷ bare x.old ∷ []))
  pub births : (d : Dated) → Contains (births_of w) d → d.epoch ≡ epoch
      → (t : ℕ) × (slot : ℕ) × Contains lines (line_of kinds.Born (t ∷ slot ∷ [])) × (d.node ≡ slot + 1)
  pub held : (d : Dated) → Contains (snapshots_of w) d → d.epoch ≡ epoch
      → (t : ℕ) × (named : List ℕ) × Contains lines (line_of kinds.Snap (t ∷ named)) × (is_in d.node named ≡ true)
