-- What a watch is shown of a run: an entry for each step of the collector, in order.
use Rattle.std.specs.Prelude.{◌≡◌, ℕ, Option, None, Some, List, [], ◌∷◌}
use Rattle.rec_word.specs.declared.op.Op.{Op}
use Rattle.rec_collector.specs.Shown.{Shown, shown_of}
use Rattle.rec_core.specs.Core.{Core}
use Rattle.rec_core.specs.Moves.{Move, AllFit, after_moves, turned}
use Rattle.rec_core.specs.Run.{over}
use Rattle.rec_core.specs.Turn.{step_seen}

-- the entry of a step with this operation, which found this word and left this heap; without an operation there was no step
abbrev pub shown_behind : (after : Core) → Option (Op × ℕ) → List Shown
shown_behind after None = []
shown_behind after (Some seen) = shown_of seen.0 seen.1 after.collector ∷ []

-- what is shown of the collector's next turn
abbrev pub turn_shown : Core → List Shown
turn_shown w = shown_behind (turned w) (step_seen w)

-- what is shown of a move: of a mutator's, nothing
abbrev pub shown_in : Core → Move → List Shown
shown_in w Move.Turns = turn_shown w
shown_in w _ = []

-- what is shown of some moves, in their order
abbrev pub shown_over : Core → List Move → List Shown
shown_over w moves = over shown_in w moves

-- Some moves lead from one heap to another, and this is shown of them.
pub record Shows (before : Core) (shown : List Shown) (after : Core) : Type 0 where
  pub moves : List Move
  pub fit : AllFit before moves
  pub ends : after_moves before moves ≡ after
  pub is : shown ≡ shown_over before moves
