-- Which run it was that an answer tells of: its steps, by the way it was made, and how its heap was settled. What the answer means is said
-- in `Headline`, which cites nothing of this but in its fields `made`. Some fields say what others imply: `not_yet` and `full` what the run
-- does.
use Rattle.std.specs.Prelude.{◌≡◌, ℕ, ◌+◌, ◌<◌, ◌≤◌, Some, List, [], length, slice_index_or}
use Rattle.std.specs.List.{slice_get}
use Rattle.rec_model.specs.declared.answer.Answer.TheVariants as answers
use Rattle.rec_model.specs.declared.command.Cmd.{Cmd}
use Rattle.rec_model.specs.declared.limits.TheConstants.{MOST_POLLS, MOST_TURNS}
use Rattle.rec_model.specs.LegalOrder.{Line, Event, actors}
use Rattle.rec_model.specs.Sight.{StandsBy}
use Rattle.rec_model.specs.Unfreed.{AreUnfreed}
use Rattle.rec_collector.specs.Shown.{Shown}
use Rattle.rec_core.specs.Core.{Core, opened, sight}
use Rattle.rec_order.specs.Events.{events_of}
use Rattle.rec_order.specs.Naming.{Naming, named_after_all}
use Rattle.rec_order.specs.Refused.{IsAwaitedStep, IsFilledStep}
use Rattle.rec_settle.specs.Collecting.{IsSettling}
use Rattle.rec_settle.specs.Shown.{IsShownTo}
use Rattle.rec_settle.specs.declared.turns.Settling.TheVariants.{Settled}
use Rattle.rec_table.specs.Ends.{Interleaves}
use Rattle.rec_table.specs.Journals.{journals_from}
use Rattle.rec_table.specs.declared.views.Beat.{Beat}
use Rattle.rec_threads.specs.Done.{begun, commands_at, driving_rule}
use Rattle.rec_play.specs.Awaited.{IsAwaitedTurn}
use Rattle.rec_play.specs.Played.{config_of, last_moment, lengths_of}
use Rattle.rec_play.specs.Playing.{all_turns, order}
use Rattle.rec_play.specs.Run.{IsPlayedRun}
use Rattle.rec_play.specs.Shown.{IsShownWhole}
use Rattle.rec_play.specs.Start.{Start, names_at}
use Rattle.rec_script.specs.Script.{ScriptContents}
use Rattle.rec_request.specs.declared.request.How.{How}
use Rattle.rec_request.specs.declared.request.How.TheVariants as hows
use Rattle.rec_request.specs.declared.request.Keeping.{Keeping}
use Rattle.rec_request.specs.declared.request.Play.{Play}

-- A mutator's list has the works of the driving rule: it polled once before each of its commands, and at most 65,536 times behind the
-- last one.
pub record KeepsRule (cmds : List Cmd) (list : List Beat) : Type 0 where
  pub polls : ℕ
  pub few : polls ≤ MOST_POLLS
  pub begins : begun list ≡ driving_rule cmds polls

-- The run on threads. The collector and each mutator have a list of their own steps, and one run from the script's start
-- to this world has these lists, each step once and in order, and no other step. Each mutator kept the driving rule, and the collector
-- made at most 10,000,000 turns, and one that gives a mailbox back. The journals are what the mutators' lists tell. The events are those
-- of that run: an answer stands among them where the step was made that decided it.
pub record IsDriven (script : ScriptContents) (start : Start) (journals : List (List Line)) (events : List Event) (names : Naming) (world : Core) : Type 0 where
  pub collected : List Beat
  pub lists : List (List Beat)
  pub interleaved : Interleaves start.world collected lists world
  pub turns : length collected ≤ MOST_TURNS + 1
  pub ruled : (k : ℕ) → k < length script.commands → KeepsRule (commands_at script.commands k) (slice_index_or lists k [])
  pub told : journals_from start.world 0 lists ≡ journals
  pub tells : events ≡ events_of (names_at start) start.world interleaved.run
  pub named : names ≡ named_after_all (names_at start) start.world interleaved.run
  -- each NotYet was decided by a step of this run that found a log which was still to be collected
  pub not_yet : (i t : ℕ) (line : Line) → slice_get events i ≡ Some (Event.Answers t line) → line.1.answer ≡ answers.NotYet → IsAwaitedStep (names_at start) start.world interleaved.run i t line
  -- and each Full by one at which every slot held an object
  pub full : (i t : ℕ) (line : Line) → slice_get events i ≡ Some (Event.Answers t line) → line.1.answer ≡ answers.Full → IsFilledStep (names_at start) start.world interleaved.run i t line

-- The run that is played: its turns are those that the playing rule draws, and its answers stand in their order. The events are what
-- these turns tell, with the frees and the sweeps of the collector's.
pub record IsDrawn (script : ScriptContents) (start : Start) (play : Play) (events : List Event) (names : Naming) (world : Core) : Type 0 where
  pub in_order : actors events ≡ order (lengths_of script) play.seed play.turns
  pub run : IsPlayedRun script start.world (names_at start) (all_turns (lengths_of script) play.seed play.turns) events names world
  -- each NotYet was decided by a step of this run that found a log which was still to be collected
  pub not_yet : (i t : ℕ) (line : Line) → slice_get events i ≡ Some (Event.Answers t line) → line.1.answer ≡ answers.NotYet → IsAwaitedTurn script start.world (names_at start) (all_turns (lengths_of script) play.seed play.turns) events i t line

-- the steps of the run, by the way it was made
abbrev MakesSteps : ScriptContents → Start → How → List (List Line) → List Event → Naming → Core → Type 0
MakesSteps script start (hows.Play play) journals events names world = IsDrawn script start play events names world
MakesSteps script start hows.Threads journals events names world = IsDriven script start journals events names world

-- A run of the script from this start has these journals and these events, and ends in this world.
pub record HasRun (script : ScriptContents) (start : Start) (how : How) (journals : List (List Line)) (events : List Event) (world : Core) : Type 0 where
  -- which object each slot holds at the end: by this the heap of the order stands for the world
  pub names : Naming
  pub stands : StandsBy (last_moment script start events).heap (sight world) names.number
  -- and the objects that the order has not freed are those in taken slots
  pub unfreed : AreUnfreed (sight world) names.number (last_moment script start events).unfreed
  pub steps : MakesSteps script start how journals events names world

-- There was such a run, and its heap was settled as that world.
pub record IsMade (script : ScriptContents) (start : Start) (how : How) (journals : List (List Line)) (events : List Event) (end world : Core) : Type 0 where
  pub run : HasRun script start how journals events end
  pub settles : IsSettling end world

-- These are the steps that the collector made while the script was played, and those that it made while the heap was settled: all of
-- them, each once, and in order.
pub record AreShown (script : ScriptContents) (asked : Keeping) (end world : Core) (played settling : List Shown) : Type 0 where
  pub while_played : IsShownWhole script asked.seed asked.turns (opened (config_of script)) played end
  pub while_settled : IsShownTo end settling Settled world
