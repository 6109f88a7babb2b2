-- What the commands of a script gave when they were played.
use Rattle.std.specs.Prelude.{◌≡◌, ℕ, ◌-◌, ◌<◌, ◌≤◌, List, [], ◌∷◌, ◌++◌, map, length, slice_index_or}
use Rattle.std.specs.List.{All, filter_map, sum}
use Rattle.rec_model.specs.declared.command.Cmd.{Cmd}
use Rattle.rec_model.specs.LegalOrder.{Line, Event, Limits, Moment, after_all, actors, line_by, IsLegalOrder, NoLogFull}
use Rattle.rec_model.specs.Sight.{StandsBy}
use Rattle.rec_model.specs.Unfreed.{AreUnfreed}
use Rattle.rec_core.specs.Core.{Core, sight}
use Rattle.rec_core.specs.Moves.{turned}
use Rattle.rec_world.specs.Journal.{Notes, no_notes}
use Rattle.rec_world.specs.Order.{Turns}
use Rattle.rec_order.specs.Naming.{Naming}
use Rattle.rec_script.specs.Script.{ScriptContents}
use Rattle.rec_play.specs.declared.actor.Actor.{Actor}
use Rattle.rec_play.specs.declared.actor.Actor.TheVariants.{Collector}
use Rattle.rec_play.specs.Playing.{order, all_turns, mutators_of}
use Rattle.rec_play.specs.Run.{IsPlayedRun}
use Rattle.rec_play.specs.Start.{Start, moment_at, names_at}
pub use Rattle.rec_play.specs.Numbers.{longest, log_room, config_of}

-- the numbers that its one order speaks of
abbrev pub limits_of : ScriptContents → Limits
limits_of script = record { fields = script.fields; slots = script.slots; log_entries = log_room script }

-- the moment after all events of an order from this start
abbrev pub last_moment : ScriptContents → Start → List Event → Moment
last_moment script start = after_all (limits_of script) (moment_at script start)

-- how many commands each mutator has
abbrev pub lengths_of : ScriptContents → List ℕ
lengths_of script = map length script.commands

-- the lines of each journal
abbrev pub lines_of : List Notes → List (List Line)
lines_of journals = map (λ journal. journal.lines) journals

-- there is one journal for each mutator, empty, with room for its commands
pub record AreReady (commands : List (List Cmd)) (journals : List Notes) : Type 0 where
  pub one_each : length journals ≡ length commands
  pub empty : All (λ journal. journal.lines ≡ []) journals
  pub room : (i : ℕ) → length (slice_index_or commands i []) ≤ (slice_index_or journals i no_notes).room

-- What is told of a whole run can be noted: there are such journals, and the order is empty and has room for all commands.
pub record MayNote (script : ScriptContents) (journals : List Notes) (noted : Turns) : Type 0 where
  pub ready : AreReady script.commands journals
  pub order : noted.list ≡ []
  pub room : sum (lengths_of script) ≤ noted.room

-- The journals hold the script's commands with what was told, and no log was full. One legal order from the start's heap explains
-- them, and its answers stand in the order of the playing rule. What was told is what the run tells that the rule's turns make up,
-- with the frees and the sweeps of the collector's turns, and the world is the one at its end.
pub record IsPlayed (script : ScriptContents) (start : Start) (seed turns : ℕ) (journals : List (List Line)) (events : List Event) (world : Core) : Type 0 where
  pub commands : map (map (λ line. line.0)) journals ≡ script.commands
  pub legal : IsLegalOrder (limits_of script) (moment_at script start) journals events
  pub in_order : actors events ≡ order (lengths_of script) seed turns
  -- which object each slot holds at the end: by this the heap of the order stands for the world
  pub names : Naming
  pub run : IsPlayedRun script start.world (names_at start) (all_turns (lengths_of script) seed turns) events names world
  pub stands : StandsBy (last_moment script start events).heap (sight world) names.number
  -- and the objects that it has not freed are those in taken slots
  pub unfreed : AreUnfreed (sight world) names.number (last_moment script start events).unfreed
  -- no answer is that a log is full
  pub no_log_full : NoLogFull journals

-- The run of a script stopped behind a step of the collector. The journals and the order tell all turns before that step, and the heap is
-- the one that the step left.
pub record IsStopped (script : ScriptContents) (first : Core) (named : Naming) (seed turns : ℕ) (journals : List (List Line)) (noted : List ℕ) (after : Core) : Type 0 where
  pub acted : List Actor
  pub later : List Actor
  pub all : acted ++ Collector ∷ later ≡ all_turns (lengths_of script) seed turns
  pub events : List Event
  pub names : Naming
  pub before : Core
  pub run : IsPlayedRun script first named acted events names before
  pub stopped : after ≡ turned before
  pub one_each : length journals ≡ length script.commands
  pub lines : (t : ℕ) → 0 < t → filter_map (line_by t) events ≡ slice_index_or journals (t - 1) []
  pub order_so : noted ≡ mutators_of acted
