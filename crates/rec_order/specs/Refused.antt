-- Which step of a run told an answer, and what it found where that refuses.
use Rattle.std.specs.Prelude.{◌≡◌, ℕ, List, [], ◌∷◌, ◌++◌, length}
use Rattle.rec_model.specs.LegalOrder.{Event, Line}
use Rattle.rec_mutator.specs.Causes.{IsAwaited}
use Rattle.rec_core.specs.Core.{Core, mutator}
use Rattle.rec_core.specs.Moves.{Move, after_moves, found_by}
use Rattle.rec_core.specs.RunAnswers.{told_in}
use Rattle.rec_core.specs.StepAnswers.{IsFilled}
use Rattle.rec_order.specs.Events.{events_of}
use Rattle.rec_order.specs.Naming.{Naming}

-- In a run of these moves, whose events are counted from this naming on, a step of mutator t told the event with this number.
pub record IsToldBy (n : Naming) (start : Core) (moves : List Move) (i t : ℕ) (line : Line) : Type 0 where
  pub earlier : List Move
  pub later : List Move
  pub all : moves ≡ earlier ++ Move.Steps t ∷ later
  pub place : i ≡ length (events_of n start earlier)
  pub tells : told_in (after_moves start earlier) (Move.Steps t) ≡ Event.Answers t line ∷ []

-- It was the first step of leaving. It loaded the own crossing word, and by that the log that the mutator handed over last was still to be
-- collected.
pub record IsAwaitedStep (n : Naming) (start : Core) (moves : List Move) (i t : ℕ) (line : Line) : Type 0 where
  pub step : IsToldBy n start moves i t line
  pub awaited : IsAwaited (mutator (after_moves start step.earlier) t) (found_by (after_moves start step.earlier) t) line.0

-- As it was made every slot held an object.
pub record IsFilledStep (n : Naming) (start : Core) (moves : List Move) (i t : ℕ) (line : Line) : Type 0 where
  pub step : IsToldBy n start moves i t line
  pub filled : IsFilled (after_moves start step.earlier)
