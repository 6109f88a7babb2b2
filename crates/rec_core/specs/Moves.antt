-- The moves of mutators and of the collector, and the runs that they make up.
use Rattle.std.specs.Prelude.{◌≡◌, ℕ, ◌+◌, ◌-◌, ◌<◌, ◌==◌, if◌then◌else◌, true, false, Option, None, Some, List, [], ◌∷◌, slice_set}
use Rattle.rec_word.specs.Mailbox.{crossing_word}
use Rattle.rec_word.specs.declared.mailbox.Mailbox.TheVariants.{Retired}
use Rattle.rec_word.specs.Op.{written}
use Rattle.rec_word.specs.declared.op.Op.{Op}
use Rattle.rec_log.specs.declared.contents.Contents.{Contents}
use Rattle.rec_mutator.specs.Next.{next_of}
use Rattle.rec_mutator.specs.Private.{Private, is_busy, IsValid}
use Rattle.rec_mutator.specs.Took.{begun_of, took_of, step_of, left_of}
use Rattle.rec_mutator.specs.declared.work.Work.{Work}
use Rattle.rec_collector.specs.Private as collectors
use Rattle.rec_collector.specs.Next as collector_next
use Rattle.rec_collector.specs.Took as collector_took
use Rattle.rec_collector.specs.declared.phase.Phase.{Phase}
use Rattle.rec_collector.specs.declared.phase.Phase.TheVariants.{Looking}
use Rattle.rec_core.specs.Cells.{cell, with_cell, births_of}
use Rattle.rec_core.specs.Config.{IsMutator, HasLabel}
use Rattle.rec_core.specs.Core.{Core, cells_of, with_cells, mutator, box, opened_from}
use Rattle.rec_core.specs.Objects.{Objects, AreObjects, HaveLabels}

-- An operation of a mutator was carried out: its word was found, what it leaves stands there, the mutator is this now, this is
-- in its mailbox, and a birth is counted where a claim succeeded.
abbrev pub performed : Core → (t : ℕ) → Op → (found : ℕ) → Private → Contents → Core
performed w t op found p left =
    record (with_cells w (with_cell (cells_of w) op (written op found))) {
      mutators = slice_set w.mutators (t - 1) p;
      boxes = slice_set w.boxes (t - 1) left;
      made = w.made + births_of op found;
    }

-- the word that a mutator's next step finds
abbrev pub found_by : Core → (t : ℕ) → ℕ
found_by w t = cell (cells_of w) (next_of (mutator w t))

-- a mutator makes its next step; one that takes its mailbox swaps the buffer in it
abbrev pub stepped : Core → (t : ℕ) → Core
stepped w t =
    performed w t (next_of (mutator w t)) (found_by w t) (step_of (mutator w t) (found_by w t) (box w t)) (left_of (took_of (mutator w t) (found_by w t)) (box w t))

-- a work of a mutator begins, whose scan, if it makes one, begins with this slot
abbrev pub begun_from : Core → (t : ℕ) → Work → (from : ℕ) → Core
begun_from w t work from = record w { mutators = slice_set w.mutators (t - 1) (begun_of (mutator w t) work from) }

-- a work of a mutator begins, whose scan, if it makes one, begins with slot 0
abbrev pub begun : Core → (t : ℕ) → Work → Core
begun w t work = begun_from w t work 0

-- the mutator whose mailbox the collector looks at next, by phase; the first where it looks at none
abbrev pub looked_at : Phase → ℕ
looked_at (Looking t) = t
looked_at _ = 1

-- what that mailbox holds after the turn, by phase: a spare, where its buffer was taken
abbrev pub left_by : collectors.Private → (found : ℕ) → Contents → Phase → Contents
left_by c found box (Looking t) = if found == crossing_word c.epoch Retired then collectors.spare c else box
left_by c found box _ = box

-- An operation of the collector was carried out: its word was found, what it leaves stands there, the collector is this now, and
-- this is in the mailbox that it looked at.
abbrev pub collected : Core → Op → (found : ℕ) → collectors.Private → Contents → Core
collected w op found c left =
    record (with_cells w (with_cell (cells_of w) op (written op found))) {
      collector = c;
      boxes = slice_set w.boxes (looked_at w.collector.phase - 1) left;
    }

-- the collector makes a turn with this operation
abbrev pub turned_by : Core → Op → (found : ℕ) → Core
turned_by w op found =
    collected w op found (collector_took.step_of w.collector found (box w (looked_at w.collector.phase))) (left_by w.collector found (box w (looked_at w.collector.phase)) w.collector.phase)

-- the collector makes its next turn; without an operation it does nothing
abbrev pub turned_at : Core → Option Op → Core
turned_at w None = w
turned_at w (Some op) = turned_by w op (cell (cells_of w) op)

abbrev pub turned : Core → Core
turned w = turned_at w (collector_next.next_of w.collector)

-- every slot that isn't released is to be offered to the next trial
abbrev pub offering : Core → Core
offering w = record w { collector = record w.collector { offers = true } }

-- a mutator begins a work, or makes a step, or the collector makes a turn, or all slots are to be offered
pub data Move : Type 0 where
  Begins : (t : ℕ) → Work → (from : ℕ) → Move
  Steps : (t : ℕ) → Move
  Turns : Move
  Offers : Move

-- the move isn't a turn of the collector
abbrev pub IsNoTurn : Move → Type 0
IsNoTurn Move.Turns = ⊥
IsNoTurn _ = Unit {0}

-- after a move
abbrev pub after_move : Core → Move → Core
after_move w (Move.Begins t work from) = begun_from w t work from
after_move w (Move.Steps t) = stepped w t
after_move w Move.Turns = turned w
after_move w Move.Offers = offering w

-- A mutator that hasn't left may begin a work where it has none that isn't finished, with any slot as its scan's first one, and make a
-- step where it has.
-- The collector may always turn, and the slots may always be offered.
abbrev pub Fits : Core → Move → Type 0
Fits w (Move.Begins t work from) = IsMutator w.config t × (is_busy (mutator w t) ≡ false) × ((mutator w t).left ≡ false) × IsValid (mutator w t) work × HasLabel work × (from < w.config.slots)
Fits w (Move.Steps t) = IsMutator w.config t × (is_busy (mutator w t) ≡ true)
Fits w Move.Turns = Unit {0}
Fits w Move.Offers = Unit {0}

-- after some moves
abbrev pub after_moves : Core → List Move → Core
after_moves w [] = w
after_moves w (m ∷ ms) = after_moves (after_move w m) ms

-- each move fits the state that the earlier ones left
abbrev pub AllFit : Core → List Move → Type 0
AllFit w [] = Unit {0}
AllFit w (m ∷ ms) = Fits w m × AllFit (after_move w m) ms

-- where a run may begin: a heap as it is opened with its numbers, from objects that registers reach
abbrev pub IsStart : Core → Type 0
IsStart start = (o : Objects) × AreObjects start.config o × HaveLabels o.nodes × (start ≡ opened_from start.config o)

-- a run from a start, and the state at its end
pub record IsRun (start : Core) (moves : List Move) (end : Core) : Type 0 where
  pub starts : IsStart start
  pub fit : AllFit start moves
  pub ends : after_moves start moves ≡ end

-- moves that fit lead from the one state to the other
abbrev pub RunsFrom : (start end : Core) → Type 0
RunsFrom start end = (moves : List Move) × AllFit start moves × (after_moves start moves ≡ end)

-- some run from some start ends there
abbrev pub EndsRun : Core → Type 0
EndsRun w = (start : Core) × (moves : List Move) × IsRun start moves w
