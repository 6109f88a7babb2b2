-- What the steps of a collector keep whose journal is in form: batches follow one another, what it gives up and sweeps stands between a
-- batch and the end of its collection, and all numbers are in range.
use Rattle.std.specs.Prelude.{◌≡◌, ◌≢◌, ⊤, ℕ, ◌+◌, ◌<◌, ◌≤◌, ◌^◌, Bool, true, false, Option, None, Some, List, [], ◌∷◌, length, All}
use Rattle.rec_word.specs.declared.op.Op.{Op}
use Rattle.rec_word.specs.declared.op.Op.TheVariants.{ClearField, FreeHeader}
use Rattle.rec_word.specs.declared.word.TheConstants.{LAST_EPOCH}
use Rattle.rec_log.specs.declared.contents.Contents.{Contents}
use Rattle.rec_log.specs.declared.entry.Entry.{Entry}
use Rattle.rec_log.specs.declared.entry.Entry.TheVariants.{Put, Born}
use Rattle.rec_collector.specs.Shown.{Batch, Shown}
use Rattle.rec_audit.specs.declared.form.Heap.{Heap}
use Rattle.rec_audit.specs.Form.{Leads, places_of}
use Rattle.rec_audit.specs.Journal.{register_number}

-- ---- a batch

-- a word of 64 bits leads to a slot of the heap, or nowhere
pub record IsWordOf (heap : Heap) (word : ℕ) : Type 0 where
  pub leads : Leads heap word
  pub fits : word < 2 ^ 64

-- what a mutator did is about places and slots of the heap
abbrev pub IsEntryOf : Heap → Entry → Type 0
IsEntryOf heap (Put place new old) = (place < places_of heap) × IsWordOf heap new × IsWordOf heap old
IsEntryOf heap (Born slot leaf) = slot < heap.slots

-- a mutator's buffer, with the snapshot of its registers
pub record IsBufferOf (heap : Heap) (buffer : Contents) : Type 0 where
  pub entries : All (IsEntryOf heap) buffer.entries
  pub registers : length buffer.snapshot ≡ heap.registers
  pub held : All (λ register. register_number register ≤ heap.slots) buffer.snapshot

-- a batch of the next epoch, with a buffer for each mutator
pub record IsBatchOf (heap : Heap) (next : ℕ) (batch : Batch) : Type 0 where
  pub next-is : batch.epoch ≡ next
  pub fits : next ≤ LAST_EPOCH
  pub all : length batch.newer ≡ heap.mutators
  pub buffers : All (IsBufferOf heap) batch.newer

-- ---- where a collector stands: the epoch of its next batch, and whether it works on one
pub record Place : Type 0 where
  pub next : ℕ
  pub working : Bool

abbrev pub with_batch : Place → Option Batch → Place
with_batch at None = at
with_batch at (Some batch) = record { next = batch.epoch + 1; working = true }

abbrev pub with_end : Place → Option ℕ → Place
with_end at None = at
with_end at (Some epoch) = record at { working = false }

-- where it stands behind a step
abbrev pub behind_step : Place → Shown → Place
behind_step at step = with_end (with_batch at step.batch) step.completed

-- ---- steps

-- a batch is applied where none is worked on
abbrev pub KeepsBatch : Heap → Place → Option Batch → Type 0
KeepsBatch heap at None = ⊤
KeepsBatch heap at (Some batch) = (at.working ≡ false) × IsBatchOf heap at.next batch

-- words come out, slots are swept and sets are given up where one is
abbrev pub KeepsOp : Heap → Place → Op → (word : ℕ) → Type 0
KeepsOp heap at (ClearField place) word = word ≢ 0 → (at.working ≡ true) × (place < places_of heap) × IsWordOf heap word
KeepsOp heap at (FreeHeader slot) word = (at.working ≡ true) × (slot < heap.slots)
KeepsOp heap at op word = ⊤

abbrev pub KeepsPassed : Heap → Place → Option (List ℕ) → Type 0
KeepsPassed heap at None = ⊤
KeepsPassed heap at (Some members) = (at.working ≡ true) × (0 < length members) × All (λ slot. slot < heap.slots) members

-- and the collection that ends is that of the batch
abbrev pub KeepsCompleted : Place → Option ℕ → Type 0
KeepsCompleted at None = ⊤
KeepsCompleted at (Some epoch) = (at.working ≡ true) × (epoch + 1 ≡ at.next)

pub record KeepsStep (heap : Heap) (at : Place) (step : Shown) : Type 0 where
  pub batch : KeepsBatch heap at step.batch
  pub op : KeepsOp heap (with_batch at step.batch) step.op step.word
  pub passed : KeepsPassed heap (with_batch at step.batch) step.passed
  pub completed : KeepsCompleted (with_batch at step.batch) step.completed

-- each of these steps keeps it
abbrev pub Keep : Heap → Place → List Shown → Type 0
Keep heap at [] = ⊤
Keep heap at (step ∷ steps) = KeepsStep heap at step × Keep heap (behind_step at step) steps

-- where a collector stands behind some steps
abbrev pub behind_steps : Place → List Shown → Place
behind_steps at [] = at
behind_steps at (step ∷ steps) = behind_steps (behind_step at step) steps

-- before its first step
abbrev pub first_place : Heap → Place
first_place heap = record { next = heap.first; working = false }
