-- Which turn of a played run told an answer NotYet.
use Rattle.std.specs.Prelude.{◌≡◌, ℕ, List, ◌∷◌, ◌++◌, take}
use Rattle.rec_model.specs.LegalOrder.{Event, Line}
use Rattle.rec_mutator.specs.Causes.{IsAwaited}
use Rattle.rec_core.specs.Core.{Core, mutator}
use Rattle.rec_core.specs.Moves.{found_by}
use Rattle.rec_order.specs.Naming.{Naming}
use Rattle.rec_script.specs.Script.{ScriptContents}
use Rattle.rec_play.specs.Run.{IsPlayedRun, IsTurnOf}
use Rattle.rec_play.specs.declared.actor.Actor.{Actor}

-- A NotYet of a run by these turns, from this heap on, whose slots hold these objects: one of them, a turn of mutator t, told the event
-- with this number. The step that answered was the first one of leaving. It loaded the own crossing word, and by that the log that the
-- mutator handed over last was still to be collected.
pub record IsAwaitedTurn (script : ScriptContents) (first : Core) (named : Naming) (turns : List Actor) (events : List Event) (i t : ℕ) (line : Line) : Type 0 where
  pub earlier : List Actor
  pub later : List Actor
  pub all : turns ≡ earlier ++ Actor.Mutator t ∷ later
  pub told : List Event
  pub place : told ≡ take i events
  pub names : Naming
  pub from : Core
  pub to : Core
  pub run : IsPlayedRun script first named earlier told names from
  pub turn : IsTurnOf script told t line.0 line.1 from to
  pub awaited : IsAwaited (mutator turn.command.last t) (found_by turn.command.last t) line.0
