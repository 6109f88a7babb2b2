-- What a heap with its collector has to account for: its words and registers, and what all its buffers hold.
use Rattle.std.specs.Prelude.{ℕ, ◌+◌, ◌-◌, ◌==◌, ◌||◌, if◌then◌else◌, Bool, true, false, Option, List, [], ◌∷◌, ◌++◌, map, flat_map, slice_index_or}
use Rattle.std.specs.List.{zip}
use Rattle.rec_word.specs.Header.{is_leaf}
use Rattle.rec_word.specs.Word.{low_bits}
use Rattle.rec_model.specs.Reach.{named}
use Rattle.rec_model.specs.Pending.{Write, Dated, dated, dated_birth, Pending}
use Rattle.rec_log.specs.declared.contents.Contents.{Contents}
use Rattle.rec_log.specs.declared.entry.Entry.{Entry}
use Rattle.rec_log.specs.declared.entry.Entry.TheVariants as entries
use Rattle.rec_counts.specs.Slot.{fresh}
use Rattle.rec_counts.specs.declared.slot.Slot.{Slot}
use Rattle.rec_mutator.specs.Causes.{gives_back}
use Rattle.rec_mutator.specs.Private.{Private}
use Rattle.rec_mutator.specs.declared.phase.Phase as phases
use Rattle.rec_mutator.specs.declared.phase.Phase.TheVariants as at
use Rattle.rec_collector.specs.declared.phase.Phase.{Phase}
use Rattle.rec_collector.specs.declared.phase.Phase.TheVariants.{Idle, Looking, Swapping, Returning}
use Rattle.rec_core.specs.Core.{Core}

-- the node of a slot, or null
abbrev pub code : Option ℕ → ℕ
code = low_bits

-- a buffer, and the epoch in which its mutator filled it
pub record Filed : Type 0 where
  pub epoch : ℕ
  pub buffer : Contents

abbrev pub filed : (epoch : ℕ) → Contents → Filed
filed epoch buffer = record { epoch = epoch; buffer = buffer }

-- the writes in a log, in order
abbrev pub writes_in : List Entry → List Write
writes_in [] = []
writes_in (entries.Put place new old ∷ es) = record { place = place; new = new; old = old } ∷ writes_in es
writes_in (entries.Born slot leaf ∷ es) = writes_in es

-- the births in a log of this epoch, in order
abbrev pub births_in : (epoch : ℕ) → List Entry → List Dated
births_in epoch [] = []
births_in epoch (entries.Put place new old ∷ es) = births_in epoch es
births_in epoch (entries.Born slot leaf ∷ es) = dated_birth epoch (slot + 1) leaf ∷ births_in epoch es

-- what is named, each with this epoch
abbrev pub dated_names : (epoch : ℕ) → List (Option ℕ) → List Dated
dated_names epoch names = map (λ slot. dated epoch (slot + 1)) (named names)

-- what is named and what is null, each with this epoch
abbrev pub dated_all : (epoch : ℕ) → List (Option ℕ) → List Dated
dated_all epoch names = map (λ x. dated epoch (code x)) names

-- a batch was applied, and its collection isn't complete
abbrev pub has_batched : Phase → Bool
has_batched Idle = false
has_batched (Looking t) = false
has_batched (Swapping t) = false
has_batched (Returning t) = false
has_batched _ = true

-- The epoch of the last batch: the one before the requested epoch, and while a collection gathers, the one before that.
abbrev pub applied_at : (requested : ℕ) → Phase → ℕ
applied_at requested (Looking t) = requested - 2
applied_at requested (Swapping t) = requested - 2
applied_at requested (Returning t) = requested - 2
applied_at requested _ = requested - 1

-- The epoch of the older buffers: that of the last collection, and while one is under way, the one before it.
abbrev pub older_at : (requested : ℕ) → Phase → ℕ
older_at requested Idle = requested - 1
older_at requested _ = requested - 2

-- the epoch that a mutator is in, or, where its snapshot is written already, the one that it crosses into
abbrev pub epoch_at : Private → ℕ
epoch_at p = if gives_back p.phase then p.epoch + 1 else p.epoch

-- what a mutator's mailbox holds: the log of the epoch before the one that the mutator is in or crosses into, whether that epoch was
-- requested or not
abbrev pub filed_box : Private × Contents → Filed
filed_box own = filed (epoch_at own.0 - 1) own.1

-- every buffer of the heap: the mutators' logs, what their mailboxes hold, and the collector's newer and older ones
abbrev pub buffers : Core → List Filed
buffers w =
    map (λ (p : Private). filed (epoch_at p) p.log) w.mutators
    ++ (map filed_box (zip w.mutators w.boxes) ++ (map (filed (w.epoch - 1)) w.collector.newer ++ map (filed (older_at w.epoch w.collector.phase)) w.collector.older))

abbrev pub writes_of : Core → List Write
writes_of w = flat_map (λ (b : Filed). writes_in b.buffer.entries) (buffers w)

abbrev pub births_of : Core → List Dated
births_of w = flat_map (λ (b : Filed). births_in b.epoch b.buffer.entries) (buffers w)

abbrev pub snapshots_of : Core → List Dated
snapshots_of w = flat_map (λ (b : Filed). dated_names b.epoch b.buffer.snapshot) (buffers w)

-- the last log is written, and the mailbox that holds it is given back next
abbrev pub is_parting : phases.Phase → Bool
is_parting at.Parting = true
is_parting _ = false

-- a mutator has let go of its registers: it has left, or is about to
abbrev pub has_let_go : Private → Bool
has_let_go p = is_parting p.phase || p.left

-- the registers of a mutator, dated by its epoch; one that has let go has none to date
abbrev pub dated_registers : Private → List Dated
dated_registers p = if has_let_go p then [] else dated_all (epoch_at p) p.registers

abbrev pub registers_of : Core → List Dated
registers_of w = flat_map dated_registers w.mutators

-- what is kept of a node's slot; past the last slot, what is kept of a free one
abbrev pub slot_of : Core → (node : ℕ) → Slot
slot_of w node = slice_index_or w.collector.counts.slots (node - 1) fresh

-- What the heap has to account for.
abbrev pub pending : Core → Pending
pending w =
    record {
      fields = w.config.fields;
      words = w.words;
      writes = writes_of w;
      births = births_of w;
      snapshots = snapshots_of w;
      registers = registers_of w;
      applied = applied_at w.epoch w.collector.phase;
      requested = w.epoch;
      count = λ node. (slot_of w node).count;
      free = λ node. slice_index_or w.headers (node - 1) 0 == 0;
      released = λ node. (slot_of w node).released;
      leaf = λ node. is_leaf (slice_index_or w.headers (node - 1) 0);
    }
