-- The played run: what each turn makes of the world, and what it tells.
use Rattle.std.specs.Prelude.{◌≡◌, ◌↔◌, ℕ, zero, suc, ◌<◌, ◌≤◌, Some, List, [], ◌∷◌, ◌++◌, length, slice_index_or}
use Rattle.std.specs.List.{slice_get, filter_map}
use Rattle.rec_model.specs.declared.answer.Answer.TheVariants as answers
use Rattle.rec_model.specs.declared.command.Cmd.{Cmd}
use Rattle.rec_model.specs.declared.told.Told.{Told}
use Rattle.rec_model.specs.LegalOrder.{Event, line_by}
use Rattle.rec_model.specs.LegalOrder.Event.{Answers}
use Rattle.rec_mutator.specs.Causes.{IsAwaited}
use Rattle.rec_mutator.specs.Private.{answer_of}
use Rattle.rec_mutator.specs.declared.made.Made.TheVariants as makes
use Rattle.rec_mutator.specs.declared.work.Work.TheVariants as works
use Rattle.rec_collector.specs.Next.{next_of}
use Rattle.rec_core.specs.Core.{Core, mutator}
use Rattle.rec_core.specs.Moves.{found_by, turned}
use Rattle.rec_core.specs.StepAnswers.{IsFilled}
use Rattle.rec_core.specs.Worked.{IsWorked, WaitsFor}
use Rattle.rec_order.specs.Events.{swept_by}
use Rattle.rec_order.specs.Naming.{Naming, NamesGoOn}
use Rattle.rec_script.specs.Script.{ScriptContents}
use Rattle.rec_play.specs.declared.actor.Actor.{Actor}
use Rattle.rec_play.specs.declared.actor.Actor.TheVariants.{Mutator, Collector}

-- the commands of a mutator, numbered from 1
abbrev pub commands_of : ScriptContents → ℕ → List Cmd
commands_of script zero = []
commands_of script (suc i) = slice_index_or script.commands i []

-- the script has a mutator with this number, and it has a command behind so many
pub record HasCommand (script : ScriptContents) (t m : ℕ) : Type 0 where
  pub some : 1 ≤ t
  pub most : t ≤ length script.commands
  pub next : m < length (commands_of script t)

-- how many commands of each mutator were answered
abbrev pub made_in : List Event → ℕ → ℕ
made_in events t = length (filter_map (line_by t) events)

-- A mutator's turn after these events: it polls, makes its next command, and is told this.
pub record IsTurnOf (script : ScriptContents) (events : List Event) (t : ℕ) (cmd : Cmd) (told : Told) (before after : Core) : Type 0 where
  pub next : slice_get (commands_of script t) (made_in events t) ≡ Some cmd
  pub polled : Core
  pub poll : IsWorked before t works.Poll polled
  pub command : IsWorked polled t (works.Command cmd) after
  pub answer : answer_of (mutator after t) ≡ Some (makes.Answered told)
  -- that is NotYet just where the step that answers is the first one of leaving, and found by the own crossing word that the log that was
  -- handed over last is still to be collected
  pub not_yet : (told.answer ≡ answers.NotYet) ↔ IsAwaited (mutator command.last t) (found_by command.last t) cmd
  -- and Full only where every slot held an object at that step
  pub full : told.answer ≡ answers.Full → IsFilled command.last

-- How a turn of the collector ends, after its step, where each mutator has made so many commands. One for which it waited, and
-- that has no command left, polls: no turn of its own comes in which it could cross. Else nothing follows.
pub data EndsTurn (script : ScriptContents) (made : ℕ → ℕ) (before stepped after : Core) : Type 0 where
  polls : (t : ℕ) → WaitsFor before t → length (commands_of script t) ≤ made t → IsWorked stepped t works.Poll after → EndsTurn script made before stepped after
  rests : ((t : ℕ) → WaitsFor before t → made t < length (commands_of script t)) → after ≡ stepped → EndsTurn script made before stepped after

-- The run of a script by these turns, one after the other from this heap, whose slots hold these objects: what was told, which object
-- each slot holds then, and the world at its end. A slot that a turn of the collector frees tells the object that it holds.
pub data IsPlayedRun (script : ScriptContents) (first : Core) (names : Naming) : List Actor → List Event → Naming → Core → Type 0 where
  starts : IsPlayedRun script first names [] [] names first
  turn : (actors : List Actor) (events : List Event) (n k : Naming) (before after : Core) (t : ℕ) (cmd : Cmd) (told : Told)
      → IsPlayedRun script first names actors events n before → IsTurnOf script events t cmd told before after → NamesGoOn before after (cmd, told) n k
      → IsPlayedRun script first names (actors ++ Mutator t ∷ []) (events ++ Answers t (cmd, told) ∷ []) k after
  collects : (actors : List Actor) (events : List Event) (n : Naming) (before after : Core)
      → IsPlayedRun script first names actors events n before → EndsTurn script (made_in events) before (turned before) after
      → IsPlayedRun script first names (actors ++ Collector ∷ []) (events ++ swept_by n (next_of before.collector)) n after
