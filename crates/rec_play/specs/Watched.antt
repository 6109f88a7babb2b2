-- A run in the middle, and its settling, as it is watched.
use Rattle.std.specs.Prelude.{◌≡◌, ◌⊎◌, ℕ, ◌+◌, ◌<◌, ◌≤◌, Option, List, [], ◌++◌, ◌∷◌, length}
use Rattle.rec_word.specs.declared.word.TheConstants.{LAST_EPOCH}
use Rattle.rec_word.specs.declared.op.Op.{Op}
use Rattle.rec_model.specs.LegalOrder.{Event}
use Rattle.rec_model.specs.declared.command.Cmd.{Cmd}
use Rattle.rec_model.specs.declared.told.Told.{Told}
use Rattle.rec_collector.specs.declared.turn.Turn.{Turn}
use Rattle.rec_core.specs.Core.{Core, opened}
use Rattle.rec_core.specs.Worked.{AreIdle}
use Rattle.rec_order.specs.Naming.{Naming, first_naming}
use Rattle.rec_core.specs.Turn.{step_seen}
use Rattle.rec_world.specs.World.{IsWorld}
use Rattle.rec_script.specs.Script.{ScriptContents}
use Rattle.rec_settle.specs.Collecting.{HasStepped}
use Rattle.rec_settle.specs.Stages as settling
use Rattle.rec_settle.specs.Stages.{HasCome}
use Rattle.rec_settle.specs.declared.turns.Settling as to_settle
use Rattle.rec_settle.specs.declared.turns.Settling.TheVariants.{Settled}
use Rattle.rec_play.specs.Moves.{AreDue, AreThere, IsSpent, MakesCommand, Player, made_by}
use Rattle.rec_play.specs.Numbers.{config_of}
use Rattle.rec_play.specs.Played.{lengths_of}
use Rattle.rec_play.specs.Playing.{Rest, generator_of, to_come}
use Rattle.rec_play.specs.Run.{IsPlayedRun, made_in}
use Rattle.rec_play.specs.declared.actor.Actor.{Actor}
use Rattle.rec_play.specs.declared.actor.Actor.TheVariants.{Collector}
use Rattle.rec_play.specs.declared.moves.Move.{Move}
use Rattle.rec_play.specs.declared.moves.Move.TheVariants.{Command, Step}
use Rattle.rec_play.specs.declared.stage.Stage.{Stage}
use Rattle.rec_play.specs.declared.stage.Stage.TheVariants.{Playing, Settling, EpochsSpent}

-- The script, the playing rule at its start, how far the run has come, what the rule still has, how many commands each mutator has
-- made, and the heap.
pub record Watched : Type 0 where
  pub script : ScriptContents
  pub rule : Rest
  pub stage : Stage
  pub rest : Rest
  pub made : List ℕ
  pub world : Core

-- its run
abbrev pub player_of : Watched → Player
player_of w = record { script = w.script; rest = w.rest; made = w.made }

-- it is the rule of this script, by some seed and number of drawn turns
pub record IsRuleOf (script : ScriptContents) (rule : Rest) : Type 0 where
  pub seed : ℕ
  pub turns : ℕ
  pub is : rule ≡ record { left = lengths_of script; generator = generator_of seed; turns = turns }

-- The first turns of the rule were made, and the others are to come. The heap is the one at the end of the run that these turns
-- make up.
pub record IsPlaying (w : Watched) : Type 0 where
  pub acted : List Actor
  pub all : acted ++ to_come w.rest ≡ to_come w.rule
  pub events : List Event
  pub names : Naming
  pub run : IsPlayedRun w.script (opened (config_of w.script)) first_naming acted events names w.world
  pub counted : (t : ℕ) → 1 ≤ t → t ≤ length w.script.commands → made_by w.made t ≡ made_in events t

-- All turns of the rule were made, and this is the heap at the end of the run that they make up.
pub record HasPlayed (w : Watched) (played : Core) : Type 0 where
  pub events : List Event
  pub names : Naming
  pub run : IsPlayedRun w.script (opened (config_of w.script)) first_naming (to_come w.rule) events names played
  pub all : (t : ℕ) → 1 ≤ t → t ≤ length w.script.commands → IsSpent w.script w.made t

-- From there settling has come so far.
pub record IsSettlingAt (w : Watched) (to : to_settle.Settling) : Type 0 where
  pub played : Core
  pub so : HasPlayed w played
  pub come : HasCome played to w.world

-- Fewer than four epochs are left there, and settling hasn't begun.
pub record AreSpent (w : Watched) : Type 0 where
  pub so : HasPlayed w w.world
  pub few : LAST_EPOCH < w.world.epoch + 4

-- how far the run has come, by its stage
abbrev pub IsAt : Stage → Watched → Type 0
IsAt Playing w = IsPlaying w
IsAt (Settling to) w = IsSettlingAt w to
IsAt EpochsSpent w = AreSpent w

-- What holds between two moves.
pub record IsWatched (w : Watched) : Type 0 where
  pub at : IsAt w.stage w
  pub rule : IsRuleOf w.script w.rule
  pub due : AreDue (player_of w)
  pub idle : AreIdle w.world
  pub present : AreThere w.script w.made w.world
  pub config : w.world.config ≡ config_of w.script
  pub kept : IsWorld w.world

-- settling is done
abbrev pub IsDone : to_settle.Settling → Type 0
IsDone Settled = Unit {0}
IsDone _ = ⊥

-- a stage in which no move is left
abbrev pub IsOver : Stage → Type 0
IsOver Playing = ⊥
IsOver (Settling to) = IsDone to
IsOver EpochsSpent = Unit {0}

-- What a step finds: where that comes next in settling, every slot is offered first.
abbrev pub offered : Stage → Core → Core
offered (Settling to) w = settling.offered to w
offered _ w = w

-- A command is told that was the mutator's turn of the rule.
pub record TellsCommand (before after : Watched) (t : ℕ) (cmd : Cmd) (told : Told) : Type 0 where
  pub playing : before.stage ≡ Playing
  pub makes : MakesCommand (player_of before) (player_of after) before.world after.world t cmd told

-- A step of the collector is told. It was the collector's turn of the rule, or none is left.
pub record TellsStep (before after : Watched) (seen : Option (Op × ℕ)) (turn : Turn) : Type 0 where
  pub turn_so : before.stage ≡ Playing → (to_come before.rest ≡ Collector ∷ to_come after.rest) ⊎ (to_come before.rest ≡ [])
  pub is : seen ≡ step_seen (offered before.stage before.world)
  pub steps : HasStepped (IsSpent before.script before.made) (offered before.stage before.world) turn after.world
  pub made : after.made ≡ before.made

-- what a move tells is what was done
abbrev pub Tells : (before after : Watched) → Move → Type 0
Tells before after (Command t cmd told) = TellsCommand before after t cmd told
Tells before after (Step seen turn) = TellsStep before after seen turn
