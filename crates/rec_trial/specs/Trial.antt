-- Trial deletion as a machine: what comes next, and what is learnt of the word that was loaded.
use Rattle.std.proofs.Common.{zero, suc}
use Rattle.std.specs.Prelude.{◌≡◌, ℕ, ◌+◌, ◌-◌, ◌*◌, ◌<◌, Bool, true, false, nat_lt, if◌then◌else◌, Option, None, Some, List, [], ◌∷◌, length, slice_index_or as item_at}
use Rattle.rec_word.specs.Place.{place_of}
use Rattle.rec_word.specs.Word.{target_of}
use Rattle.rec_word.specs.declared.op.Op.{Op}
use Rattle.rec_word.specs.declared.op.Op.TheVariants.{LoadChild}
use Rattle.rec_counts.specs.Counts.{State, slot_at, without_root}
use Rattle.rec_counts.specs.Groups.{last_set}
use Rattle.rec_counts.specs.Colour.{is_white}
use Rattle.rec_trial.specs.declared.phase.Phase.{Phase}
use Rattle.rec_trial.specs.declared.phase.Phase.TheVariants.{Idle, Marking, Scanning, Collecting}
use Rattle.rec_trial.specs.Moves.{marked_by, dropped, blackened_if, scanned_by, has_rest, all_whitened, joined_if, collected_by, with_new_set, cleared}

-- how many fields a slot has; how many slots of the marked list scanning, or collecting, has looked at; how many slots of
-- the list at work have had all their fields loaded; the slot and the field that are loaded next
pub record Machine : Type 0 where
  pub fields : ℕ
  pub phase : Phase
  pub tried : ℕ
  pub done : ℕ
  pub slot : ℕ
  pub field : ℕ

-- a trial, with the counts that it works on
pub record Work : Type 0 where
  pub machine : Machine
  pub counts : State

-- this phase begins, with nothing done in it
abbrev pub begun_at : Phase → (fields : ℕ) → Machine
begun_at phase fields = record { fields = fields; phase = phase; tried = 0; done = 0; slot = 0; field = 0 }

-- no trial is at work
abbrev pub idle_of : (fields : ℕ) → Machine
idle_of fields = begun_at Idle fields

-- what comes next: the field is loaded
abbrev pub op_at : Phase → Machine → Option Op
op_at Idle m = None
op_at _ m = Some (LoadChild (place_of m.slot m.field m.fields))

unfoldable pub next_of : Machine → Option Op
next_of m = op_at m.phase m

-- what comes next, if anything does, names a field of a heap with so many slots
abbrev pub NamesPlace : (slots : ℕ) → Machine → Type 0
NamesPlace slots m = (place : ℕ) → next_of m ≡ Some (LoadChild place) → place < slots * m.fields

-- the list whose slots have their fields loaded, one after another: what is marked; what became Black; the last set
abbrev pub list_of : Phase → State → List ℕ
list_of Idle s = []
list_of Marking s = s.marked
list_of Scanning s = s.work
list_of Collecting s = last_set s.sets

-- a field is to be loaded, or nothing is left to do
abbrev pub is_due_at : Phase → (done : ℕ) → State → Bool
is_due_at Idle done s = true
is_due_at Marking done s = nat_lt done (length s.marked)
is_due_at Scanning done s = nat_lt done (length s.work)
is_due_at Collecting done s = nat_lt done (length (last_set s.sets))

abbrev pub is_due : Work → Bool
is_due w = is_due_at w.machine.phase w.machine.done w.counts

-- the first root leaves the root buffer; where there is none, scanning begins
abbrev pub roots_moved : (roots : List ℕ) → Work → Work
roots_moved [] w = record { machine = begun_at Scanning w.machine.fields; counts = w.counts }
roots_moved (x ∷ xs) w = record { machine = record w.machine { phase = Marking }; counts = dropped (without_root (x ∷ xs) w.counts) x }

-- the next marked slot becomes Black where it has a rest; after the last one every Gray slot becomes White, and collecting begins
abbrev pub scan_moved : (more : Bool) → Work → Work
scan_moved true w =
    let x : ℕ = item_at w.counts.marked w.machine.tried 0 in
    record { machine = record w.machine { phase = Scanning; tried = w.machine.tried + 1 }; counts = blackened_if (has_rest (slot_at w.counts x)) w.counts x }
scan_moved false w = record { machine = begun_at Collecting w.machine.fields; counts = all_whitened w.counts }

-- a White slot is the first of a new set
abbrev pub set_begun_if : (white : Bool) → Work → ℕ → Work
set_begun_if true w x = record { machine = record w.machine { phase = Collecting; tried = w.machine.tried + 1; done = 0 }; counts = joined_if true (with_new_set w.counts) x }
set_begun_if false w x = record { machine = record w.machine { phase = Collecting; tried = w.machine.tried + 1 }; counts = w.counts }

-- the next marked slot begins a set where it is White; after the last one the trial is over
abbrev pub collect_moved : (more : Bool) → Work → Work
collect_moved true w = let x : ℕ = item_at w.counts.marked w.machine.tried 0 in set_begun_if (is_white (slot_at w.counts x).colour) w x
collect_moved false w = record { machine = record w.machine { phase = Idle }; counts = cleared w.counts }

-- the marked slot in this place is left as it is when it is looked at
abbrev pub IsPassed : Phase → State → (place : ℕ) → Type 0
IsPassed Scanning s i = (i < length s.marked) × (has_rest (slot_at s (item_at s.marked i 0)) ≡ false)
IsPassed Collecting s i = (i < length s.marked) × (is_white (slot_at s (item_at s.marked i 0)).colour ≡ false)
IsPassed _ s i = ⊥

-- one move without a load
abbrev pub moved_at : Phase → Work → Work
moved_at Idle w = w
moved_at Marking w = roots_moved w.counts.roots w
moved_at Scanning w = scan_moved (nat_lt w.machine.tried (length w.counts.marked)) w
moved_at Collecting w = collect_moved (nat_lt w.machine.tried (length w.counts.marked)) w

-- as many moves as there can be before a load
abbrev pub moves_left : Phase → Work → ℕ
moves_left Idle w = 0
moves_left Marking w = 3 + 3 * length w.counts.roots + 2 * length w.counts.marked
moves_left Scanning w = 2 + length w.counts.marked + (length w.counts.marked - w.machine.tried)
moves_left Collecting w = 1 + (length w.counts.marked - w.machine.tried)

-- so many moves, but none once a load is due
abbrev pub settled_in : ℕ → Work → Work
settled_in zero w = w
settled_in (suc n) w = if is_due w then w else settled_in n (moved_at w.machine.phase w)

-- the moves up to the next load, or to the end
unfoldable pub settled : Work → Work
settled w = settled_in (moves_left w.machine.phase w) w

-- the slot whose field is loaded next
abbrev pub pointed : Work → Work
pointed w = record w { machine = record (w.machine) { slot = item_at (list_of w.machine.phase w.counts) w.machine.done 0 } }

-- a field of the slot that the machine names is due
abbrev pub IsHere : Phase → State → Machine → Type 0
IsHere phase s m = (is_due_at phase m.done s ≡ true) × (m.slot ≡ item_at (list_of phase s) m.done 0)

-- what each phase learns of a target
abbrev pub learnt_at : Phase → State → Option ℕ → State
learnt_at Idle s target = s
learnt_at Marking s target = marked_by s target
learnt_at Scanning s target = scanned_by s target
learnt_at Collecting s target = collected_by s target

-- the next field of the same slot; after the last one, the first field of the next slot
abbrev pub advanced_if : (more : Bool) → Machine → Machine
advanced_if true m = record m { field = m.field + 1 }
advanced_if false m = record m { done = m.done + 1; field = 0 }

abbrev pub advanced : Machine → Machine
advanced m = advanced_if (nat_lt (m.field + 1) m.fields) m

abbrev pub went_on : Work → (word : ℕ) → Work
went_on w word = pointed (settled (record { machine = advanced w.machine; counts = learnt_at w.machine.phase w.counts (target_of word) }))

abbrev pub took_at : Phase → Work → (word : ℕ) → Work
took_at Idle w word = w
took_at _ w word = went_on w word

-- what is learnt
unfoldable pub took_of : Work → (word : ℕ) → Work
took_of w word = took_at w.machine.phase w word

-- marking is about to begin
abbrev pub opened_of : (fields : ℕ) → Machine
opened_of fields = begun_at Marking fields

-- a trial begins
unfoldable pub started_of : (fields : ℕ) → State → Work
started_of fields s = pointed (settled (record { machine = opened_of fields; counts = s }))
