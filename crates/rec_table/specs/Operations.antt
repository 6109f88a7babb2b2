-- What one atomic operation on the table makes of the run: no step, one, or a work's begin and its first step at that moment.
use Rattle.std.specs.Prelude.{◌≡◌, ◌≢◌, ℕ, ◌<◌, ◌==◌, if◌then◌else◌, Option, Some, None, List, [], ◌∷◌, ◌++◌, length, slice_index, slice_set}
use mathlib.Core.Option.{some}
use lib.ListN.{get_elem?}
use Rattle.atomic_table.specs.Table.{State, Me, Act, Valid, stepped, carried_after}
use Rattle.rec_word.specs.Mailbox.{crossing_word}
use Rattle.rec_word.specs.Op.{written}
use Rattle.rec_word.specs.declared.mailbox.Mailbox.TheVariants.{Retired}
use Rattle.rec_word.specs.declared.op.Op.{Op}
use Rattle.rec_log.specs.declared.contents.Contents.{Contents}
use Rattle.rec_mutator.specs.Next.{next_of}
use Rattle.rec_collector.specs.Next as collector_next
use Rattle.rec_core.specs.Cells.{cell}
use Rattle.rec_core.specs.Core.{Core, cells_of, mutator}
use Rattle.rec_core.specs.Moves.{Move, after_moves, found_by}
use Rattle.rec_core.specs.Run.{over}
use Rattle.rec_core.specs.Row.{index_of}
use Rattle.rec_table.specs.Rule.{Holds}
use Rattle.rec_table.specs.declared.start.Start.{Start}
use Rattle.rec_table.specs.declared.views.View.{View}
use Rattle.rec_table.specs.declared.views.View.TheVariants.{Mutates}

-- The kinds of a seat's atomic operation: its mutator's next step, with which a work may begin; a load of the header that its scan
-- would claim next; a turn of the collector; a load of the crossing word that the collector looks at next; and a look by comparing that
-- crossing word with this one.
pub data Kind : Type 0 where
  Steps : Option Start → Kind
  Passes : Kind
  Turns : Kind
  Glances : Kind
  Tries : (expected : ℕ) → Kind

-- an operation: who makes it, mutators being numbered from 1 and the collector 0; its kind; the index of its word; what it leaves of
-- the word that it finds; and that word
pub record Operation : Type 0 where
  pub actor : ℕ
  pub kind : Kind
  pub index : ℕ
  pub leaves : ℕ → ℕ
  pub found : ℕ

-- a step of the run: whose it is, its operation of the core, and the word that it finds
pub record Performed : Type 0 where
  pub actor : ℕ
  pub op : Op
  pub found : ℕ

abbrev pub performed : (actor : ℕ) → Op → (found : ℕ) → Performed
performed actor op found = record { actor = actor; op = op; found = found }

abbrev pub turned_by : Core → Option Op → List Performed
turned_by w None = []
turned_by w (Some op) = performed 0 op (cell (cells_of w) op) ∷ []

-- the step that a move is: the begin of a work is none
abbrev pub step_in : Core → Move → List Performed
step_in w (Move.Steps t) = performed t (next_of (mutator w t)) (found_by w t) ∷ []
step_in w Move.Turns = turned_by w (collector_next.next_of w.collector)
step_in w _ = []

-- the steps of a run
abbrev pub steps_in : Core → List Move → List Performed
steps_in w ms = over step_in w ms

-- the moves of a mutator's step, with the work that begins first
abbrev pub moves_of : (t : ℕ) → Option Start → List Move
moves_of t None = Move.Steps t ∷ []
moves_of t (Some start) = Move.Begins t start.work start.from ∷ Move.Steps t ∷ []

abbrev moves_by : Core → (actor found : ℕ) → Kind → List Move
moves_by w actor found (Kind.Steps work) = moves_of actor work
moves_by w actor found Kind.Passes = if found == 0 then [] else Move.Steps actor ∷ []
moves_by w actor found Kind.Turns = Move.Turns ∷ []
moves_by w actor found (Kind.Tries expected) = Move.Turns ∷ []
moves_by w actor found Kind.Glances = if found == crossing_word w.collector.epoch Retired then [] else Move.Turns ∷ []

-- What an operation makes of the run in this state: a step, with the begin of its work or without; or a turn. A load that finds a
-- header free makes nothing, nor does one that finds the mailbox due: a claim, or a look, follows.
abbrev pub moves_made : Core → Operation → List Move
moves_made w o = moves_by w o.actor o.found o.kind

abbrev LeavesAs : (leaves : ℕ → ℕ) → (found : ℕ) → Op → Kind → Type 0
LeavesAs leaves found op (Kind.Steps work) = (n : ℕ) → leaves n ≡ written op n
LeavesAs leaves found op Kind.Turns = (n : ℕ) → leaves n ≡ written op n
LeavesAs leaves found op (Kind.Tries expected) = ((n : ℕ) → leaves n ≡ (if n == expected then written op expected else n)) × (leaves found ≡ written op found)
LeavesAs leaves found op Kind.Passes = ((n : ℕ) → leaves n ≡ n) × (written op found ≡ found)
LeavesAs leaves found op Kind.Glances = ((n : ℕ) → leaves n ≡ n) × (written op found ≡ found)

-- An operation on the table is this one of the core: it stands at its word, and leaves what it leaves of every word. A load may stand
-- for one that leaves the word found as it is. A look is a compare-exchange: it puts what the look leaves of the word expected, and
-- leaves any other word. Of the word found it leaves what the look leaves.
abbrev CarriesOut : (key : Core) → Operation → Op → Type 0
CarriesOut key o op = (o.index ≡ index_of (length key.words) (length key.headers) op) × LeavesAs o.leaves o.found op o.kind

-- The steps of the run after an operation that made these moves. Where it made none, they are those before; else there is one more,
-- which is its maker's, by the operation of the core that it is, of the word found.
abbrev pub Adds : (key : Core) → Operation → List Move → (before after : List Performed) → Type 0
Adds key o [] before after = after ≡ before
Adds key o (m ∷ ms) before after = (op : Op) × (after ≡ before ++ performed o.actor op o.found ∷ []) × CarriesOut key o op

-- The run before an operation and after it: it grew by the moves that such an operation makes, and by nothing else.
pub record Grows (key : Core) (o : Operation) (run run' : List Move) : Type 0 where
  pub moves : run' ≡ run ++ moves_made (after_moves key run) o
  pub steps : Adds key o (moves_made (after_moves key run) o) (steps_in key run) (steps_in key run')

-- operations one after another since the heap was started, and the run that they made
pub data Ran (key : Core) : List Operation → List Move → Type 0 where
  opens : Ran key [] []
  next : (os : List Operation) (o : Operation) (run run' : List Move) → Ran key os run → Grows key o run run' → Ran key (os ++ o ∷ []) run'

-- Each of these steps was made by one of these operations, whose actor, word found and operation of the core it has. No two were by
-- the same one, and they come in its order.
pub data AreMade (key : Core) : List Operation → List Performed → Type 0 where
  opens : AreMade key [] []
  idle : (os : List Operation) (o : Operation) (steps : List Performed) → AreMade key os steps → AreMade key (os ++ o ∷ []) steps
  step : (os : List Operation) (o : Operation) (steps : List Performed) (op : Op) → AreMade key os steps → CarriesOut key o op → AreMade key (os ++ o ∷ []) (steps ++ performed o.actor op o.found ∷ [])

-- The rule of the table: beside what holds of a run, that run is what the operations made which the seats carried out so far.
pub record Runs (key : Core) (s : State (Option Contents) View) : Type 0 where
  pub holds : Holds key s
  pub operations : List Operation
  pub ran : Ran key operations holds.run

-- whose operations a seat makes
abbrev pub actor_at : View → ℕ
actor_at (Mutates t) = t.number
actor_at _ = 0

abbrev pub operation : View → Kind → (index : ℕ) → (leaves : ℕ → ℕ) → (found : ℕ) → Operation
operation v kind index leaves found = record { actor = actor_at v; kind = kind; index = index; leaves = leaves; found = found }

-- Whatever the table is when a seat makes an operation of this kind on a word, which leaves f of that: the rule is kept, its run grows
-- by what such an operation makes, and the seat is told this.
abbrev pub Operates : (key : Core) → Kind → (slots id : ℕ) → Me (Option Contents) View → (index : ℕ) → (f : ℕ → ℕ) → (tells : ℕ → Me (Option Contents) View → Type 0) → Type 0
Operates key kind slots id me index f tells =
    (s : State (Option Contents) View) (h : Holds key s) → length s.homes ≡ slots → get_elem? s.views id ≡ some me.0 → slice_index s.words index < 18446744073709551616
    → (v : View) × (a : Act (Option Contents)) × Valid s.homes me.1 a × (h' : Holds key (stepped s index (f (slice_index s.words index)) id me.1 v a))
    × Grows key (operation me.0 kind index f (slice_index s.words index)) h.run h'.run × tells (slice_index s.words index) (v, carried_after me.1 a)

-- The rule holds of the table with other views, and the run is as it was.
abbrev pub Stays : (key : Core) (s : State (Option Contents) View) (h : Holds key s) → List View → Type 0
Stays key s h views = (h' : Holds key (record { words = s.words; homes = s.homes; views = views })) × (h'.run ≡ h.run)

-- Whatever the table is when a seat is made, or another one is taken in: the rule is kept, and its run is as it was.
abbrev pub SplitsIdly : (key : Core) → ℕ → View → View → View → Type 0
SplitsIdly key id v left right = (s : State (Option Contents) View) (h : Holds key s) → get_elem? s.views id ≡ some v → Stays key s h (slice_set s.views id left ++ right ∷ [])

abbrev pub JoinsIdly : (key : Core) → ℕ → View → ℕ → View → View → View → Type 0
JoinsIdly key id v other w both spent =
    (s : State (Option Contents) View) (h : Holds key s) → get_elem? s.views id ≡ some v → other ≢ id → get_elem? (slice_set s.views id both) other ≡ some w → Stays key s h (slice_set (slice_set s.views id both) other spent)
