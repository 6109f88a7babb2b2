-- What a watch is shown of a run by the playing rule, turn by turn.
use Rattle.std.specs.Prelude.{◌≡◌, ℕ, Option, None, Some, List, [], ◌∷◌, ◌++◌, replicate}
use Rattle.rec_model.specs.LegalOrder.{Line}
use Rattle.rec_model.specs.declared.limits.TheConstants.{MOST_MUTATORS}
use Rattle.rec_collector.specs.Shown.{Shown}
use Rattle.rec_core.specs.Core.{Core}
use Rattle.rec_core.specs.Moves.{turned}
use Rattle.rec_core.specs.Shown.{turn_shown}
use Rattle.rec_order.specs.Naming.{Naming}
use Rattle.rec_script.specs.Script.{ScriptContents}
use Rattle.rec_play.specs.Moves.{Makes, Player}
use Rattle.rec_play.specs.Played.{IsStopped, lengths_of}
use Rattle.rec_play.specs.Playing.{generator_of, to_come}
use Rattle.rec_play.specs.declared.actor.Actor.{Actor}
use Rattle.rec_play.specs.declared.actor.Actor.TheVariants.{Collector}
use Rattle.rec_play.specs.declared.moves.Move.{Move}
use Rattle.rec_play.specs.declared.moves.Move.TheVariants.{Command, Step}

-- what is shown of a turn of the rule: of a mutator's, nothing
abbrev pub move_shown : (before : Core) → Move → List Shown
move_shown before (Command t cmd told) = []
move_shown before (Step seen turn) = turn_shown before

-- and where none was left, nothing
abbrev pub told_shown : (before : Core) → Option Move → List Shown
told_shown before None = []
told_shown before (Some move) = move_shown before move

-- a run before its first turn
abbrev pub first_player : ScriptContents → (seed turns : ℕ) → Player
first_player script seed turns = record { script = script; rest = record { left = lengths_of script; generator = generator_of seed; turns = turns }; made = replicate MOST_MUTATORS 0 }

-- The states to which turns of the rule lead from these, with all that is shown of these turns.
pub data IsShownTo (from : Player) (first : Core) : List Shown → Player → Core → Type 0 where
  begins : IsShownTo from first [] from first
  turns : (shown : List Shown) (p q : Player) (before after : Core) (move : Move)
      → IsShownTo from first shown p before → Makes p q before after move → IsShownTo from first (shown ++ move_shown before move) q after

-- All turns of a script's run were made, and this is all that was shown of them.
pub record IsShownWhole (script : ScriptContents) (seed turns : ℕ) (first : Core) (shown : List Shown) (after : Core) : Type 0 where
  pub last : Player
  pub so : IsShownTo (first_player script seed turns) first shown last after
  pub ended : to_come last.rest ≡ []

-- A watch refused a step of the collector, of whose turns it was shown each one before: the heap is the one right behind it.
pub record StopsBehind (script : ScriptContents) (seed turns : ℕ) (first : Core) (shown : List Shown) (after : Core) : Type 0 where
  pub player : Player
  pub before : Core
  pub so : IsShownTo (first_player script seed turns) first shown player before
  pub later : List Actor
  pub next : to_come player.rest ≡ Collector ∷ later
  pub stopped : after ≡ turned before

-- A watch refused a step of the collector, so the run stopped behind it. The watch was shown each turn before; the journals and the order
-- tell the turns before it, whichever objects the slots held at first.
pub record WasRefused (script : ScriptContents) (seed turns : ℕ) (first : Core) (was_shown : List Shown → Type 0) (journals : List (List Line)) (noted : List ℕ) (after : Core) : Type 0 where
  pub shown : (shown : List Shown) × StopsBehind script seed turns first shown after × was_shown shown
  pub stopped : (named : Naming) → IsStopped script first named seed turns journals noted after
