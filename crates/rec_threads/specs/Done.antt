-- What a crew has to be for a script, and what is done once its commands are carried out.
use Rattle.std.specs.Prelude.{◌≡◌, ℕ, ◌⊎◌, ◌+◌, ◌-◌, ◌<◌, ◌≤◌, ◌||◌, Bool, true, false, IsSome, MatchBool, None, Option, List, [], ◌∷◌, ◌++◌, length, map, replicate, slice_index_or}
use Rattle.std.specs.List.{flat_map, list_any}
use Rattle.rec_model.specs.LegalOrder.{Line}
use Rattle.rec_model.specs.declared.command.Cmd.{Cmd}
use Rattle.rec_model.specs.declared.limits.TheConstants.{MOST_POLLS, MOST_TURNS}
use Rattle.rec_mutator.specs.Private.{KeepsSizes, Private}
use Rattle.rec_mutator.specs.declared.work.Work.{Work}
use Rattle.rec_mutator.specs.declared.work.Work.TheVariants as works
use Rattle.rec_collector.specs.Next.{next_of}
use Rattle.rec_collector.specs.declared.turn.Turn.{Turn}
use Rattle.rec_script.specs.Script.{ScriptContents}
use Rattle.rec_table.specs.Views.{CollectorView, MutatorView, Started, IsCollectorOf, IsMutatorOf, collector_now, mutator_now}
use Rattle.rec_table.specs.Journals.{Tells}
use Rattle.rec_table.specs.Turn.{MakesTurn}
use Rattle.rec_table.specs.declared.views.Beat.{Beat}
use Rattle.rec_table.specs.declared.views.Beat.TheVariants as beats
use Rattle.rec_world.specs.Journal.{Notes, no_notes}
use Rattle.rec_world.specs.World.{is_leave_done}
use Rattle.rec_threads.specs.declared.crew.Crew.{Crew}
use Rattle.rec_threads.specs.declared.signals.Over.{Over}
use Rattle.rec_threads.specs.declared.worker.Worker.{Worker}

-- the commands of a mutator, by its index
abbrev pub commands_at : List (List Cmd) → ℕ → List Cmd
commands_at commands k = slice_index_or commands k []

-- a mutator with its journal, by their index
abbrev pub worker_at : List MutatorView → List Notes → ℕ → MutatorView → Worker
worker_at mutators journals k d = record { mutator = slice_index_or mutators k d; journal = slice_index_or journals k no_notes }

-- a mutator with commands to make hasn't left before; one without any may have
abbrev pub IsThereFor : List Cmd → Private → Type 0
IsThereFor cmds p = 0 < length cmds → p.left ≡ false

-- Mutator k of this heap may carry out its commands: it has the script's registers and fields, it is there for them, and it has an empty
-- journal with room.
pub record IsReady (h : Started) (script : ScriptContents) (k : ℕ) (w : Worker) : Type 0 where
  pub own : IsMutatorOf h w.mutator
  pub number : w.mutator.number ≡ k + 1
  pub named : (mutator_now w.mutator).number ≡ k + 1
  pub registers : length (mutator_now w.mutator).registers ≡ script.registers
  pub fields : (mutator_now w.mutator).fields ≡ script.fields
  pub present : IsThereFor (commands_at script.commands k) (mutator_now w.mutator)
  pub empty : w.journal.lines ≡ []
  pub room : length (commands_at script.commands k) ≤ w.journal.room

-- The first so many mutators may, with a journal each.
pub record AreReady (h : Started) (script : ScriptContents) (mutators : List MutatorView) (journals : List Notes) : Type 0 where
  pub few : length mutators ≤ length script.commands
  pub one_each : length journals ≡ length mutators
  pub each : (k : ℕ) (d : MutatorView) → k < length mutators → IsReady h script k (worker_at mutators journals k d)

-- a worker's place among them
abbrev pub index_of : Worker → ℕ
index_of w = (mutator_now w.mutator).number - 1

-- The worker's mutator is one of the script's, and may carry out its commands.
pub record IsHired (h : Started) (script : ScriptContents) (w : Worker) : Type 0 where
  pub among : index_of w < length script.commands
  pub ready : IsReady h script (index_of w) w

-- The crew is the whole heap's, and the heap has the script's numbers.
pub record IsCrewFor (h : Started) (script : ScriptContents) (crew : Crew) : Type 0 where
  pub all : length crew.mutators.items ≡ h.world.config.mutators
  pub script_all : length script.commands ≡ h.world.config.mutators
  pub ready : AreReady h script crew.mutators.items crew.journals.items
  pub collector : IsCollectorOf h crew.collector

-- the works that a list begins, in order
abbrev pub begun_by : Beat → List Work
begun_by (beats.Begins start) = start.work ∷ []
begun_by _ = []

abbrev pub begun : List Beat → List Work
begun = flat_map begun_by

-- a poll, and a command behind it
abbrev pub turn : Cmd → List Work
turn cmd = works.Poll ∷ works.Command cmd ∷ []

-- a poll before each of these commands
abbrev pub polled_before : List Cmd → List Work
polled_before = flat_map turn

-- The driving rule: a poll before each command, and so many behind the last one.
abbrev pub driving_rule : List Cmd → (polls : ℕ) → List Work
driving_rule cmds polls = polled_before cmds ++ replicate polls works.Poll

-- by this line its mutator has left
abbrev pub has_left_by : Line → Bool
has_left_by line = is_leave_done line.0 line.1.answer

-- The worker's mutator made these works, of which these commands are answered, each once and in order. Its journal grew by them with
-- what was told, and these are the lines that the mutator's list tells since. It has left just where it had before, or did by one of them.
pub record HasMade (cmds : List Cmd) (done : List Work) (was now : Worker) : Type 0 where
  pub lines : List Line
  pub commands : map (λ line. line.0) lines ≡ cmds
  pub noted : now.journal.lines ≡ was.journal.lines ++ lines
  pub room : now.journal.room + length cmds ≡ was.journal.room
  pub told : Tells (mutator_now was.mutator) was.mutator.log now.mutator.log lines
  pub begins : begun told.beats ≡ done
  pub mutator : now.mutator ≡ record was.mutator { log = now.mutator.log }
  pub sizes : KeepsSizes (mutator_now was.mutator) (mutator_now now.mutator)
  pub left : (mutator_now now.mutator).left ≡ ((mutator_now was.mutator).left || list_any has_left_by lines)

-- the commands that a script has for a worker's mutator
abbrev pub own_commands : ScriptContents → Worker → List Cmd
own_commands script w = commands_at script.commands (index_of w)

-- the worker polled before each command that the script has for its mutator, each is answered, and nothing else was made
abbrev pub HasMadeAll : ScriptContents → (was now : Worker) → Type 0
HasMadeAll script was now = HasMade (own_commands script was) (polled_before (own_commands script was)) was now

-- The worker carried out these commands by the rule: it polled once before each, and at most 65,536 times behind the last one, but not
-- once where its mutator has left.
pub record HasDone (cmds : List Cmd) (was now : Worker) : Type 0 where
  pub polls : ℕ
  pub few : polls ≤ MOST_POLLS
  pub gone : (mutator_now now.mutator).left ≡ true → polls ≡ 0
  pub made : HasMade cmds (driving_rule cmds polls) was now

-- The worker carried out the commands that the script has for its mutator, and then ended as it may: its mutator has left, or the collector's
-- worker had ended, or it polled 65,536 times behind the last command.
pub record HasStayed (script : ScriptContents) (was now : Worker) (over : Option Over) : Type 0 where
  pub done : HasDone (own_commands script was) was now
  pub ended : ((mutator_now now.mutator).left ≡ true) ⊎ IsSome over ⊎ (done.polls ≡ MOST_POLLS)

-- each mutator's worker carried out that mutator's commands
pub record HaveDone (commands : List (List Cmd)) (mutators : List MutatorView) (journals : List Notes) (mutators' : List MutatorView) (journals' : List Notes) : Type 0 where
  pub mutators_all : length mutators' ≡ length mutators
  pub journals_all : length journals' ≡ length journals
  pub each : (k : ℕ) (d : MutatorView) → k < length mutators → HasDone (commands_at commands k) (worker_at mutators journals k d) (worker_at mutators' journals' k d)

-- the collectors to which so many turns lead, one after another
pub data TurnsTo (g : CollectorView) : ℕ → CollectorView → Type 0 where
  none : TurnsTo g 0 g
  more : (turns : ℕ) (a b : CollectorView) (answer : Turn) → TurnsTo g turns a → MakesTurn a b answer → TurnsTo g (turns + 1) b

-- The collector made so many turns: each is a beat of its list, but where the epochs were spent, and then no turn is one any more.
pub record HasTurned (turns : ℕ) (g g' : CollectorView) : Type 0 where
  pub path : TurnsTo g turns g'
  pub beats : List Beat
  pub grows : g' ≡ record g { collecting = record g.collecting { log = g.collecting.log ++ beats } }
  pub each : (length beats ≡ turns) ⊎ ((next_of (collector_now g') ≡ None) × (length beats ≤ turns))
  pub requested : (collector_now g').epoch ≤ (collector_now g).epoch + turns

-- The collector made one turn at least, and at most so many.
pub record HasCollected (most : ℕ) (g g' : CollectorView) : Type 0 where
  pub turns : ℕ
  pub some : 0 < turns
  pub few : turns ≤ most
  pub turned : HasTurned turns g g'

-- the crew is as it was
pub record IsSame (crew crew' : Crew) : Type 0 where
  pub mutators : crew'.mutators.items ≡ crew.mutators.items
  pub journals : crew'.journals.items ≡ crew.journals.items
  pub collector : crew'.collector ≡ crew.collector

-- each mutator's worker carried out its commands, with the collector beside them
pub record HasWorked (h : Started) (commands : List (List Cmd)) (crew crew' : Crew) : Type 0 where
  pub done : HaveDone commands crew.mutators.items crew.journals.items crew'.mutators.items crew'.journals.items
  pub collector : IsCollectorOf h crew'.collector
  pub collected : HasCollected MOST_TURNS crew.collector crew'.collector

-- where all were there they worked, and else nothing was done
abbrev pub HasEnded : Bool → Started → List (List Cmd) → Crew → Crew → Type 0
HasEnded all_there h commands crew crew' = MatchBool all_there (HasWorked h commands crew crew') (IsSame crew crew')
