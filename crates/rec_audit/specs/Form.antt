-- Which lines may stand behind which: the order of a journal's lines, and the ranges of their numbers.
use Rattle.std.specs.Prelude.{◌≡◌, ◌≢◌, ℕ, ◌+◌, ◌*◌, ◌<◌, ◌≤◌, nat_lt, Bool, true, false, if◌then◌else◌, List, ◌∷◌, ◌++◌, length, drop, reverse, All, Option, None, Some, slice_index}
use Rattle.std.specs.List.{find}
use Rattle.rec_model.specs.declared.limits.TheConstants.{MOST_SLOTS, MOST_FIELDS, MOST_REGISTERS, MOST_MUTATORS}
use Rattle.rec_word.specs.declared.word.TheConstants.{LAST_EPOCH}
use Rattle.rec_word.specs.Word.{target_bits}
use Rattle.rec_audit.specs.declared.kind.Kind.{Kind}
use Rattle.rec_audit.specs.declared.kind.Kind.TheVariants.{Title, Heap, Epoch, Put, Born, Snap, Out, Free, Sweep, End}
use Rattle.rec_audit.specs.declared.form.Stage.{Stage}
use Rattle.rec_audit.specs.declared.form.Stage.TheVariants as stages
use Rattle.rec_audit.specs.declared.form.Heap.{Heap as HeapNumbers}
use Rattle.rec_audit.specs.declared.form.Form.{Form}
use Rattle.rec_audit.specs.Lines.{Line, AreNumbers}

-- a number of a line by its place, from 0
abbrev pub number : ℕ → Line → ℕ
number i line = slice_index line.numbers i

-- the last of some lines that is of a kind, if one is
abbrev pub last_that : (Line → Bool) → List Line → Option Line
last_that test lines = find test (reverse lines)

-- ---- the heap and the blocks

abbrev pub is_heap : Kind → Bool
is_heap Heap = true
is_heap _ = false

abbrev pub is_epoch : Kind → Bool
is_epoch Epoch = true
is_epoch _ = false

-- the heap that its line tells
abbrev pub heap_told : List ℕ → HeapNumbers
heap_told numbers = record { slots = slice_index numbers 0; fields = slice_index numbers 1; registers = slice_index numbers 2; mutators = slice_index numbers 3; first = slice_index numbers 4 }

-- the numbers of the heap that a line tells; 0 where there is none
abbrev pub heap_in : Option Line → HeapNumbers
heap_in None = record { slots = 0; fields = 0; registers = 0; mutators = 0; first = 0 }
heap_in (Some line) = heap_told line.numbers

-- the numbers of the heap of some lines
abbrev pub heap_of : List Line → HeapNumbers
heap_of lines = heap_in (last_that (λ line. is_heap line.kind) lines)

-- a line that tells a block's number
abbrev pub is_numbering : Kind → Bool
is_numbering Heap = true
is_numbering Epoch = true
is_numbering _ = false

-- the number of the block behind it: the first one, or one more
abbrev pub number_behind : Kind → List ℕ → ℕ
number_behind Epoch numbers = slice_index numbers 0 + 1
number_behind _ numbers = slice_index numbers 4

abbrev pub next_in : Option Line → ℕ
next_in None = 0
next_in (Some line) = number_behind line.kind line.numbers

-- the number of the next block behind some lines: blocks are numbered from the first one without a gap
abbrev pub next_block : List Line → ℕ
next_block lines = next_in (last_that (λ line. is_numbering line.kind) lines)

-- ---- the order

-- where a line stands: a mutator's lines in its part of a block
abbrev pub stage_of : Kind → (first : ℕ) → Stage
stage_of Title first = stages.Title
stage_of Heap first = stages.Heap
stage_of Epoch first = stages.Between
stage_of Put first = stages.Part first
stage_of Born first = stages.Part first
stage_of Snap first = stages.Part first
stage_of Out first = stages.Steps
stage_of Free first = stages.Steps
stage_of Sweep first = stages.Steps
stage_of End first = stages.Steps

abbrev pub stage_at : Line → Stage
stage_at line = stage_of line.kind (number 0 line)

-- what a line leads to: a block has a part for each mutator in turn, which its `snap` ends, and then the collector's
abbrev pub leads_to : (mutators : ℕ) → Kind → (first : ℕ) → Stage
leads_to mutators Title first = stages.Heap
leads_to mutators Heap first = stages.Between
leads_to mutators Epoch first = stages.Part 1
leads_to mutators Put first = stages.Part first
leads_to mutators Born first = stages.Part first
leads_to mutators Snap first = if nat_lt first mutators then stages.Part (first + 1) else stages.Steps
leads_to mutators Out first = stages.Steps
leads_to mutators Free first = stages.Steps
leads_to mutators Sweep first = stages.Steps
leads_to mutators End first = stages.Between

abbrev pub stage_in : (mutators : ℕ) → Option Line → Stage
stage_in mutators None = stages.Title
stage_in mutators (Some line) = leads_to mutators line.kind (number 0 line)

-- what is awaited behind some lines
abbrev pub stage_behind : List Line → Stage
stage_behind lines = stage_in (heap_of lines).mutators (last_that (λ line. true) lines)

-- ---- the ranges

-- where a journal stands behind some lines
abbrev pub form_of : List Line → Form
form_of lines = record { heap = heap_of lines; stage = stage_behind lines; next = next_block lines }

-- from 1 up to a limit
pub record IsSize (limit n : ℕ) : Type 0 where
  pub some : 1 ≤ n
  pub most : n ≤ limit

-- how many fields a heap has in all
abbrev pub places_of : HeapNumbers → ℕ
places_of heap = heap.slots * heap.fields

-- a word leads to a slot of the heap, or nowhere
abbrev pub Leads : HeapNumbers → (word : ℕ) → Type 0
Leads heap word = target_bits word ≤ heap.slots

pub record AreHeapNumbers (numbers : List ℕ) : Type 0 where
  pub five : length numbers ≡ 5
  pub slots : IsSize MOST_SLOTS (slice_index numbers 0)
  pub fields : IsSize MOST_FIELDS (slice_index numbers 1)
  pub registers : IsSize MOST_REGISTERS (slice_index numbers 2)
  pub mutators : IsSize MOST_MUTATORS (slice_index numbers 3)
  pub first : IsSize LAST_EPOCH (slice_index numbers 4)

pub record ArePutNumbers (heap : HeapNumbers) (numbers : List ℕ) : Type 0 where
  pub four : length numbers ≡ 4
  pub place : slice_index numbers 1 < places_of heap
  pub new : Leads heap (slice_index numbers 2)
  pub old : Leads heap (slice_index numbers 3)

pub record AreOutNumbers (heap : HeapNumbers) (numbers : List ℕ) : Type 0 where
  pub two : length numbers ≡ 2
  pub place : slice_index numbers 0 < places_of heap
  pub some : slice_index numbers 1 ≢ 0
  pub word : Leads heap (slice_index numbers 1)

-- a mutator's number, and of each of its registers the slot plus one, or 0
pub record AreSnapNumbers (heap : HeapNumbers) (numbers : List ℕ) : Type 0 where
  pub count : length numbers ≡ heap.registers + 1
  pub held : All (λ n. n ≤ heap.slots) (drop 1 numbers)

pub record AreFreeNumbers (heap : HeapNumbers) (numbers : List ℕ) : Type 0 where
  pub some : 0 < length numbers
  pub slots : All (λ n. n < heap.slots) numbers

pub record AreTitleNumbers (numbers : List ℕ) : Type 0 where
  pub one : length numbers ≡ 1
  pub version : slice_index numbers 0 ≡ 1

pub record AreEpochNumbers (next : ℕ) (numbers : List ℕ) : Type 0 where
  pub one : length numbers ≡ 1
  pub number : slice_index numbers 0 ≡ next
  pub most : next ≤ LAST_EPOCH

pub record AreEndNumbers (next : ℕ) (numbers : List ℕ) : Type 0 where
  pub one : length numbers ≡ 1
  pub number : slice_index numbers 0 + 1 ≡ next

pub record AreBornNumbers (heap : HeapNumbers) (numbers : List ℕ) : Type 0 where
  pub two : length numbers ≡ 2
  pub slot : slice_index numbers 1 < heap.slots

pub record AreSweepNumbers (heap : HeapNumbers) (numbers : List ℕ) : Type 0 where
  pub one : length numbers ≡ 1
  pub slot : slice_index numbers 0 < heap.slots

-- the numbers of a line are as many as its kind has, and in range
abbrev pub HasNumbers : Form → Kind → List ℕ → Type 0
HasNumbers form Title numbers = AreTitleNumbers numbers
HasNumbers form Heap numbers = AreHeapNumbers numbers
HasNumbers form Epoch numbers = AreEpochNumbers form.next numbers
HasNumbers form Put numbers = ArePutNumbers form.heap numbers
HasNumbers form Born numbers = AreBornNumbers form.heap numbers
HasNumbers form Snap numbers = AreSnapNumbers form.heap numbers
HasNumbers form Out numbers = AreOutNumbers form.heap numbers
HasNumbers form Free numbers = AreFreeNumbers form.heap numbers
HasNumbers form Sweep numbers = AreSweepNumbers form.heap numbers
HasNumbers form End numbers = AreEndNumbers form.next numbers

-- a line may stand where a journal stands
pub record MayStand (form : Form) (line : Line) : Type 0 where
  pub stage : stage_at line ≡ form.stage
  pub numbers : HasNumbers form line.kind line.numbers
  pub fits : AreNumbers line.numbers

-- each of these lines may stand behind those before it
abbrev pub Stand : List Line → Type 0
Stand lines = (before : List Line) (line : Line) (after : List Line) → lines ≡ before ++ line ∷ after → MayStand (form_of before) line

-- a journal in form: its lines may stand so, and no block is left open
pub record IsInForm (lines : List Line) : Type 0 where
  pub stand : Stand lines
  pub whole : stage_behind lines ≡ stages.Between

-- where a journal stands behind a line more
abbrev pub behind : Form → Line → Form
behind form line =
    let heap : HeapNumbers = if is_heap line.kind then heap_in (Some line) else form.heap in
    record { heap = heap; stage = leads_to heap.mutators line.kind (number 0 line); next = if is_numbering line.kind then number_behind line.kind line.numbers else form.next }
