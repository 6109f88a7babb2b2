-- The journal of a list of steps that a collector made: a title, a heap, and the lines that each step is told by.
use Rattle.std.specs.Prelude.{◌≡◌, ℕ, ◌==◌, if◌then◌else◌, Option, None, Some, List, [], ◌∷◌, ◌++◌, map}
use Rattle.std.specs.List.{count_by, flat_map, enumerate_from}
use Rattle.std.specs.Option.{is_some}
-- a register is written as one more than the slot that it holds, or 0
pub use Rattle.rec_word.specs.Word.{low_bits as register_number}
use Rattle.rec_word.specs.declared.op.Op.{Op}
use Rattle.rec_word.specs.declared.op.Op.TheVariants.{ClearField, FreeHeader}
use Rattle.rec_log.specs.declared.contents.Contents.{Contents}
use Rattle.rec_log.specs.declared.entry.Entry.{Entry}
use Rattle.rec_log.specs.declared.entry.Entry.TheVariants.{Put, Born}
use Rattle.rec_collector.specs.Shown.{Batch, Shown}
use Rattle.rec_audit.specs.declared.form.Heap.{Heap}
use Rattle.rec_audit.specs.declared.kind.Kind.{Kind}
use Rattle.rec_audit.specs.declared.kind.Kind.TheVariants as kinds
use Rattle.rec_audit.specs.Lines.{Line, text_of}

abbrev pub line_of : Kind → List ℕ → Line
line_of kind numbers = record { kind = kind; numbers = numbers }

-- ---- a batch

-- what a mutator did, as a line
abbrev pub entry_line : (mutator : ℕ) → Entry → Line
entry_line t (Put place new old) = line_of kinds.Put (t ∷ place ∷ new ∷ old ∷ [])
entry_line t (Born slot leaf) = line_of kinds.Born (t ∷ slot ∷ [])

abbrev pub snap_line : (mutator : ℕ) → List (Option ℕ) → Line
snap_line t registers = line_of kinds.Snap (t ∷ map register_number registers)

-- a mutator's part of a block: its entries in its own order, and what its registers held as it left the epoch
abbrev pub part_lines : (mutator : ℕ) → Contents → List Line
part_lines t buffer = map (entry_line t) buffer.entries ++ snap_line t buffer.snapshot ∷ []

-- the parts of the mutators, from the first one on
abbrev pub parts_lines : List Contents → List Line
parts_lines buffers = flat_map (λ p. part_lines p.0 p.1) (enumerate_from 1 buffers)

abbrev pub batch_lines : Option Batch → List Line
batch_lines None = []
batch_lines (Some batch) = line_of kinds.Epoch (batch.epoch ∷ []) ∷ parts_lines batch.newer

-- ---- what the collector did

-- a word other than 0 that was taken out of a field, or a slot that was swept
abbrev pub op_lines : Op → (word : ℕ) → List Line
op_lines (ClearField place) word = if word == 0 then [] else line_of kinds.Out (place ∷ word ∷ []) ∷ []
op_lines (FreeHeader slot) word = line_of kinds.Sweep (slot ∷ []) ∷ []
op_lines op word = []

-- a set that passed both tests
abbrev pub passed_lines : Option (List ℕ) → List Line
passed_lines None = []
passed_lines (Some members) = line_of kinds.Free members ∷ []

abbrev pub completed_lines : Option ℕ → List Line
completed_lines None = []
completed_lines (Some epoch) = line_of kinds.End (epoch ∷ []) ∷ []

-- ---- steps

-- The lines of a step. What it applied comes first, then what it took out or swept. A set that passed both tests in it stands
-- behind these: the set's own fields go in the steps that follow. The end of the collection is last.
abbrev pub lines_of : Shown → List Line
lines_of step = batch_lines step.batch ++ (op_lines step.op step.word ++ (passed_lines step.passed ++ completed_lines step.completed))

abbrev pub heap_numbers : Heap → List ℕ
heap_numbers heap = heap.slots ∷ heap.fields ∷ heap.registers ∷ heap.mutators ∷ heap.first ∷ []

-- the lines before the first step
abbrev pub opening_lines : Heap → List Line
opening_lines heap = line_of kinds.Title (1 ∷ []) ∷ line_of kinds.Heap (heap_numbers heap) ∷ []

-- the journal of these steps of a collector, in a heap that is so large
abbrev pub journal : Heap → List Shown → List Line
journal heap steps = opening_lines heap ++ flat_map lines_of steps

-- An audit has noted these steps: its text is just that of their journal.
abbrev pub HasNoted : Heap → List Shown → (text : List ℕ) → Type 0
HasNoted heap steps text = text ≡ text_of (journal heap steps)

-- how many sets passed both tests in these steps
abbrev pub sets_passed : List Shown → ℕ
sets_passed steps = count_by (λ step. is_some step.passed) steps
