-- What the turns of a run make of the heap, and what is told of them.
use Rattle.std.specs.Prelude.{◌≡◌, ◌↔◌, ℕ, ◌+◌, ◌-◌, ◌<◌, ◌≤◌, false, Option, Some, IfSome, IsNone, List, [], ◌∷◌, length, slice_index_or, slice_set}
use Rattle.std.specs.List.{slice_get}
use Rattle.rec_word.specs.declared.op.Op.{Op}
use Rattle.rec_model.specs.declared.answer.Answer.TheVariants as answers
use Rattle.rec_model.specs.declared.command.Cmd.{Cmd}
use Rattle.rec_model.specs.declared.limits.TheConstants.{MOST_MUTATORS}
use Rattle.rec_model.specs.declared.told.Told.{Told}
use Rattle.rec_model.specs.Numbering.{times}
use Rattle.rec_mutator.specs.Causes.{IsAwaited}
use Rattle.rec_mutator.specs.Private.{answer_of}
use Rattle.rec_mutator.specs.declared.made.Made.TheVariants as makes
use Rattle.rec_mutator.specs.declared.work.Work.TheVariants as works
use Rattle.rec_collector.specs.declared.turn.Turn.{Turn}
use Rattle.rec_core.specs.Core.{Core, mutator}
use Rattle.rec_core.specs.Moves.{found_by}
use Rattle.rec_core.specs.StepAnswers.{IsFilled}
use Rattle.rec_core.specs.Worked.{AreIdle, IsWorked}
use Rattle.rec_order.specs.Naming.{Naming, NamesGoOn}
use Rattle.rec_core.specs.Turn.{step_seen}
use Rattle.rec_script.specs.Script.{ScriptContents, IsScript}
use Rattle.rec_settle.specs.Collecting.{HasStepped}
use Rattle.rec_play.specs.Numbers.{config_of}
use Rattle.rec_play.specs.Played.{lengths_of}
use Rattle.rec_play.specs.Playing.{Rest, mutators_of, to_come}
use Rattle.rec_play.specs.Run.{commands_of}
use Rattle.rec_play.specs.declared.actor.Actor.TheVariants.{Mutator, Collector}
use Rattle.rec_play.specs.declared.moves.Move.{Move}
use Rattle.rec_play.specs.declared.moves.Move.TheVariants.{Command, Step}

-- how many commands a mutator has made; mutators are numbered from 1
abbrev pub made_by : List ℕ → ℕ → ℕ
made_by made t = slice_index_or made (t - 1) 0

-- a mutator has no command left
abbrev pub IsSpent : ScriptContents → (made : List ℕ) → ℕ → Type 0
IsSpent script made t = length (commands_of script t) ≤ made_by made t

-- whoever has a command left hasn't left the heap
abbrev pub AreThere : ScriptContents → (made : List ℕ) → Core → Type 0
AreThere script made w = (t : ℕ) → made_by made t < length (commands_of script t) → (mutator w t).left ≡ false

-- The run of a script may go on in this world: it has the script's numbers, no mutator works, and whoever has a command left is there.
pub record MayGoOn (script : ScriptContents) (made : List ℕ) (w : Core) : Type 0 where
  pub config : w.config ≡ config_of script
  pub idle : AreIdle w
  pub present : AreThere script made w

-- a run in the middle: its script, what the rule still has, and how many commands each mutator has made
pub record Player : Type 0 where
  pub script : ScriptContents
  pub rest : Rest
  pub made : List ℕ

-- The commands that a mutator has made and its turns to come are all its commands, and nobody else has a turn.
pub record AreDue (p : Player) : Type 0 where
  pub valid : IsScript p.script
  pub long : length p.made ≡ MOST_MUTATORS
  pub each : (t : ℕ) → 1 ≤ t → made_by p.made t + times t (mutators_of (to_come p.rest)) ≡ slice_index_or (lengths_of p.script) (t - 1) 0
  pub nobody : times 0 (mutators_of (to_come p.rest)) ≡ 0

-- A mutator that had made so many commands polled, made its next one, and was told this: NotYet just where the step that answers is the
-- first one of leaving, and found by the own crossing word that the log that was handed over last is still to be collected. Whichever
-- object each slot held, each that is named now is the same, or was born by this.
pub record Carries (script : ScriptContents) (t made : ℕ) (before : Core) (cmd : Cmd) (told : Told) (after : Core) : Type 0 where
  pub next : slice_get (commands_of script t) made ≡ Some cmd
  pub polled : Core
  pub poll : IsWorked before t works.Poll polled
  pub command : IsWorked polled t (works.Command cmd) after
  pub answer : answer_of (mutator after t) ≡ Some (makes.Answered told)
  pub not_yet : (told.answer ≡ answers.NotYet) ↔ IsAwaited (mutator command.last t) (found_by command.last t) cmd
  pub full : told.answer ≡ answers.Full → IsFilled command.last
  pub names : (n : Naming) → (k : Naming) × NamesGoOn before after (cmd, told) n k

-- A command was made that was the mutator's turn of the rule. It requests no epoch.
pub record MakesCommand (p q : Player) (before after : Core) (t : ℕ) (cmd : Cmd) (told : Told) : Type 0 where
  pub turn : to_come p.rest ≡ Mutator t ∷ to_come q.rest
  pub carries : Carries p.script t (made_by p.made t) before cmd told after
  pub made : q.made ≡ slice_set p.made (t - 1) (made_by p.made t + 1)
  pub requested : after.epoch ≡ before.epoch

-- A step was made in the collector's turn of the rule. One epoch more is requested at most.
pub record MakesStep (p q : Player) (before after : Core) (seen : Option (Op × ℕ)) (turn : Turn) : Type 0 where
  pub turn_so : to_come p.rest ≡ Collector ∷ to_come q.rest
  pub is : seen ≡ step_seen before
  pub steps : HasStepped (IsSpent p.script p.made) before turn after
  pub made : q.made ≡ p.made
  pub requested : after.epoch ≤ before.epoch + 1

-- what a turn tells is what was done
abbrev pub Makes : (p q : Player) (before after : Core) → Move → Type 0
Makes p q before after (Command t cmd told) = MakesCommand p q before after t cmd told
Makes p q before after (Step seen turn) = MakesStep p q before after seen turn

-- The next turn of the rule was made, which is what is told. Where none is told, none was left, and nothing changed.
pub record HasTurned (p q : Player) (before after : Core) (move : Option Move) : Type 0 where
  pub told : IfSome move (Makes p q before after)
  pub ended : IsNone move → to_come p.rest ≡ []
  pub stays : IsNone move → (q ≡ p) × (after ≡ before)
