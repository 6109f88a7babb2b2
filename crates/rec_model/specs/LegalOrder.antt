-- When journals, frees and sweep marks have one order that the heap that never frees explains.
use Rattle.std.specs.Prelude.{◌≡◌, ◌≢◌, ◌⊎◌, ℕ, ◌+◌, ◌-◌, ◌%◌, ◌<◌, ◌≤◌, ◌==◌, ◌&&◌, not, if◌then◌else◌, Bool, true, false, Option, None, Some, List, [], ◌∷◌, ◌++◌, length, take, filter, slice_index_or, slice_set}
use Rattle.std.specs.List.{All, slice_get, filter_map}
use Rattle.rec_word.specs.Word.{stamp_of}
use Rattle.rec_model.specs.declared.command.Cmd.{Cmd}
use Rattle.rec_model.specs.declared.command.Cmd.TheVariants as commands
use Rattle.rec_model.specs.declared.answer.Answer.{Answer}
use Rattle.rec_model.specs.declared.answer.Answer.TheVariants as answers
use Rattle.rec_model.specs.declared.told.Told.{Told}
use Rattle.rec_model.specs.Reach.{is_in}
use Rattle.rec_model.specs.Numbering.{IsDistinct}
use Rattle.rec_model.specs.Heap.{Heap, IsLive}
use Rattle.rec_model.specs.Asking.{asked, is_done, IsTold}

-- a line of a journal: a command, and what was told
abbrev pub Line : Type 0
Line = Cmd × Told

-- an answer to a mutator, the freeing of an object, or the begin or end of a sweep
pub data Event : Type 0 where
  Answers : (t : ℕ) → Line → Event
  Frees : (n : ℕ) → Event
  Marks : Event

-- numbers that do not change: fields of an object, slots of the heap, entries that a log can hold
pub record Limits : Type 0 where
  pub fields : ℕ
  pub slots : ℕ
  pub log_entries : ℕ

-- what stands between two events
pub record Moment : Type 0 where
  pub heap : Heap
  -- the objects that are not freed
  pub unfreed : List ℕ
  -- how often a sweep began or ended
  pub marks : ℕ
  -- whether an object was freed since the last mark
  pub frees : Bool
  -- the entries of each mutator's log, taken as one for each command answered Done
  pub done : List ℕ

-- whether it is an allocation
abbrev pub is_new : Cmd → Bool
is_new (commands.New reg label) = true
is_new (commands.Leaf reg label) = true
is_new _ = false

-- whether an object was born
abbrev pub is_birth : Line → Bool
is_birth line = is_new line.0 && is_done line.1.answer

-- one more for a mutator, numbered from 1
abbrev pub bump : List ℕ → ℕ → List ℕ
bump ns t = slice_set ns (t - 1) (slice_index_or ns (t - 1) 0 + 1)

-- after an answer: the heap is the one asked, births join the unfreed objects
abbrev pub after_answer : Limits → Moment → ℕ → Line → Moment
after_answer limits w t line =
    record {
      heap = (asked limits.fields w.heap t line.0 line.1).heap;
      unfreed = if is_birth line then w.unfreed ++ length w.heap.objects ∷ [] else w.unfreed;
      marks = w.marks;
      frees = w.frees;
      done = if is_done line.1.answer then bump w.done t else w.done;
    }

-- after an event
abbrev pub after : Limits → Moment → Event → Moment
after limits w (Answers t line) = after_answer limits w t line
after limits w (Frees n) = record w { unfreed = filter (λ m. not (m == n)) w.unfreed; frees = true }
after limits w Marks = record w { marks = w.marks + 1; frees = false }

-- after some events
abbrev pub after_all : Limits → Moment → List Event → Moment
after_all limits w [] = w
after_all limits w (e ∷ es) = after_all limits (after limits w e) es

-- the moment before the event with this number
abbrev pub moment : Limits → Moment → List Event → ℕ → Moment
moment limits start events i = after_all limits start (take i events)

-- a slot was free for the object, or none was
abbrev pub NewFits : Limits → Moment → Answer → Type 0
NewFits limits w answers.Done = length w.unfreed < limits.slots
NewFits limits w answers.Full = length w.unfreed ≡ limits.slots
NewFits limits w _ = Unit {0}

-- what an allocation's answer needs of the moment at which it stands
abbrev pub AllocationFits : Limits → Moment → Cmd → Answer → Type 0
AllocationFits limits w (commands.New reg label) answer = NewFits limits w answer
AllocationFits limits w (commands.Leaf reg label) answer = NewFits limits w answer
AllocationFits limits w _ answer = Unit {0}

-- an answer is that of asking; an allocation found a free slot, or none; a full log has its entries
pub record AnswerFits (limits : Limits) (w : Moment) (t : ℕ) (line : Line) : Type 0 where
  pub told : IsTold limits.fields w.heap t line.0 line.1
  pub allocation : AllocationFits limits w line.0 line.1.answer
  pub log_full : line.1.answer ≡ answers.LogFull → limits.log_entries ≤ slice_index_or w.done (t - 1) 0

-- frees stand within a sweep and name unfreed objects out of reach; a sweep frees something
abbrev pub Fits : Limits → Moment → Event → Type 0
Fits limits w (Answers t line) = AnswerFits limits w t line
Fits limits w (Frees n) = (is_in n w.unfreed ≡ true) × (IsLive w.heap n → ⊥) × (w.marks % 2 ≡ 1)
Fits limits w Marks = w.marks % 2 ≡ 1 → w.frees ≡ true

-- whether the event is an answer to this mutator
abbrev pub is_by : ℕ → Event → Bool
is_by t (Answers s line) = s == t
is_by t _ = false

-- the line that the event tells this mutator
abbrev pub line_by : ℕ → Event → Option Line
line_by t (Answers s line) = if s == t then Some line else None
line_by t _ = None

-- the mutator that the event answers
abbrev pub actor : Event → Option ℕ
actor (Answers t line) = Some t
actor _ = None

-- the mutators in the order of their commands
abbrev pub actors : List Event → List ℕ
actors = filter_map actor

-- no event from i on and before j is of this mutator
abbrev pub IsQuiet : ℕ → List Event → ℕ → ℕ → Type 0
IsQuiet t events i j = (k : ℕ) (e : Event) → i ≤ k → k < j → slice_get events k ≡ Some e → is_by t e ≡ false

-- object n is unfreed at some moment after the mutator's previous event and up to event i
abbrev WasUnfreed : Limits → Moment → List Event → ℕ → ℕ → ℕ → Type 0
WasUnfreed limits start events t i n =
    (j : ℕ) × (j ≤ i) × IsQuiet t events j i × (is_in n (moment limits start events j).unfreed ≡ true)

-- the evidence of a busy answer at event i: a sweep ran, began or ended, and as many objects as slots were unfreed meanwhile
pub record BusyFits (limits : Limits) (start : Moment) (events : List Event) (t i before after : ℕ) : Type 0 where
  pub sweep : (before % 2 ≡ 1) ⊎ (before < after)
  pub began : (j : ℕ) × (j ≤ i) × IsQuiet t events j i × ((moment limits start events j).marks ≡ before)
  pub ended : (j : ℕ) × (i < j) × (j ≤ length events) × IsQuiet t events (i + 1) j × ((moment limits start events j).marks ≡ after)
  pub taken : (ns : List ℕ) × (limits.slots ≤ length ns) × IsDistinct ns × ((n : ℕ) → is_in n ns ≡ true → WasUnfreed limits start events t i n)

-- the word that a line's command left in a field
abbrev pub word_left : Cmd → Told → Option ℕ
word_left (commands.Put src f val) told = if is_done told.answer then Some told.left else None
word_left _ told = None

-- the word that an event left in a field
abbrev pub left_by : Event → Option ℕ
left_by (Answers t line) = word_left line.0 line.1
left_by _ = None

-- a word left by a write bears its writer's number, and no two have the same stamp
pub record Stamped (events : List Event) : Type 0 where
  pub writer : (i t word : ℕ) (line : Line) → slice_get events i ≡ Some (Answers t line) → word_left line.0 line.1 ≡ Some word → (stamp_of word).writer ≡ t
  pub distinct : (i j v w : ℕ) (d e : Event) → slice_get events i ≡ Some d → left_by d ≡ Some v → slice_get events j ≡ Some e → left_by e ≡ Some w → stamp_of v ≡ stamp_of w → i ≡ j

-- The one order: each journal's lines, each once, in its own order, and every event fits the moment at which it stands.
pub record IsLegalOrder (limits : Limits) (start : Moment) (journals : List (List Line)) (events : List Event) : Type 0 where
  pub own : (t : ℕ) → 0 < t → filter_map (line_by t) events ≡ slice_index_or journals (t - 1) []
  pub numbered : (i t : ℕ) (line : Line) → slice_get events i ≡ Some (Answers t line) → (0 < t) × (t ≤ length journals)
  pub fits : (i : ℕ) (e : Event) → slice_get events i ≡ Some e → Fits limits (moment limits start events i) e
  pub busy : (i t before after : ℕ) (line : Line) → slice_get events i ≡ Some (Answers t line) → line.1.answer ≡ answers.Busy before after → BusyFits limits start events t i before after
  pub stamped : Stamped events

-- no answer is that a log is full
abbrev pub NoLogFull : List (List Line) → Type 0
NoLogFull journals = All (All (λ (line : Line). line.1.answer ≢ answers.LogFull)) journals
