-- The collector's machine as a whole: plain data.
use Rattle.std.specs.Prelude.{ℕ, Bool, false, Option, None, List, [], map, replicate, slice_index_or as item_at}
use Rattle.rec_log.specs.declared.contents.Contents.{Contents}
use Rattle.rec_counts.specs.Counts.{State, opened as opened_counts}
use Rattle.rec_collector.specs.Parts.{Parts, no_sets}
use Rattle.rec_collector.specs.Rows.{rows_of}
use Rattle.rec_collector.specs.declared.policy.Policy.{Policy}
use Rattle.rec_collector.specs.declared.sets.Sets.{Sets}
use Rattle.rec_collector.specs.declared.phase.Phase.{Phase}
use Rattle.rec_collector.specs.declared.phase.Phase.TheVariants.{Idle}

-- the requested epoch, the collections completed and the slots swept since opening, and the turns since the last collection;
-- how far the collection has come, with the machine that is at work; the registers and the room of each buffer; how many fields a slot
-- has; the counts; for each mutator the newer buffer, which is a spare until its mailbox was gathered, the older one, and whether it has
-- left: its last buffer was gathered; what became of the sets that were tested; whether every slot is to be offered to the next trial; how
-- many collections in a row have postponed their trial by now; and how the heap is collected
pub record Private : Type 0 where
  pub epoch : ℕ
  pub collections : ℕ
  pub freed : ℕ
  pub turns : ℕ
  pub phase : Phase
  pub registers : ℕ
  pub capacity : ℕ
  pub fields : ℕ
  pub counts : State
  pub newer : List Contents
  pub older : List Contents
  pub left : List Bool
  pub sets : Sets
  pub offers : Bool
  pub postponed : ℕ
  pub policy : Policy

-- a script's heap isn't steady, and makes a trial in each collection
abbrev pub plain : Policy
plain = record { steady = false; least_roots = 0; most_postponed = 0 }

-- a buffer without entries that has these registers as its snapshot
abbrev pub retired : (registers : List (Option ℕ)) (capacity : ℕ) → Contents
retired registers capacity = record { entries = []; snapshot = registers; capacity = capacity; last = false; still = false }

-- a buffer without entries, with a null snapshot of so many registers
abbrev pub blank : (registers capacity : ℕ) → Contents
blank registers capacity = retired (replicate registers None) capacity

-- a spare buffer of this machine: what it leaves in a mailbox
abbrev pub spare : Private → Contents
spare p = blank p.registers p.capacity

-- the older buffers where registers named these slots, mutator after mutator
abbrev pub retired_rows : (registers mutators capacity : ℕ) → List (Option ℕ) → List Contents
retired_rows registers mutators capacity held = map (λ own. retired own capacity) (rows_of registers mutators held)

-- a machine as it is opened where the first slots have these counts, and registers named these slots
abbrev pub opened : (slots fields registers mutators capacity first_epoch : ℕ) → (policy : Policy) → (counts : List ℕ) → (held : List (Option ℕ)) → Private
opened slots fields registers mutators capacity first_epoch policy counts held =
    record {
      epoch = first_epoch;
      collections = 0;
      freed = 0;
      turns = 0;
      phase = Idle;
      registers = registers;
      capacity = capacity;
      fields = fields;
      counts = opened_counts slots counts;
      newer = replicate mutators (blank registers capacity);
      older = retired_rows registers mutators capacity held;
      left = replicate mutators false;
      sets = no_sets;
      offers = false;
      postponed = 0;
      policy = policy;
    }

-- the buffer of the mutator of this number, which is one more than its place
abbrev pub buffer_at : List Contents → (place : ℕ) → Contents
buffer_at buffers place = item_at buffers place (blank 0 0)

-- what the collection works on between a batch and a sweep
abbrev pub parts_of : Private → Parts
parts_of p = record { counts = p.counts; fields = p.fields; sets = p.sets; offers = p.offers; postponed = p.postponed; policy = p.policy }

abbrev pub with_parts : Private → Parts → Private
with_parts p w = record p { counts = w.counts; fields = w.fields; sets = w.sets; offers = w.offers; postponed = w.postponed; policy = w.policy }
