-- What the moves of a run tell of its commands.
use Rattle.std.specs.Prelude.{ℕ, Option, Some, List, [], ◌∷◌}
use Rattle.rec_model.specs.Asking.{plain}
use Rattle.rec_model.specs.LegalOrder.{Event}
use Rattle.rec_model.specs.declared.answer.Answer.TheVariants as answers
use Rattle.rec_model.specs.declared.command.Cmd.TheVariants as commands
use Rattle.rec_mutator.specs.Private.{work_of, answer_of}
use Rattle.rec_mutator.specs.declared.made.Made.{Made}
use Rattle.rec_mutator.specs.declared.made.Made.TheVariants as makes
use Rattle.rec_mutator.specs.declared.phase.Phase.{Phase}
use Rattle.rec_mutator.specs.declared.phase.Phase.TheVariants.{Leaving, Parting}
use Rattle.rec_mutator.specs.declared.work.Work.{Work}
use Rattle.rec_mutator.specs.declared.work.Work.TheVariants as works
use Rattle.rec_core.specs.Core.{Core, mutator}
use Rattle.rec_core.specs.Moves.{Move, stepped}
use Rattle.rec_core.specs.Run.{over}

-- the line that a step tells which answers what it decides, by its work and what came of it: none where it answers no command
abbrev pub answered_by : (t : ℕ) → Option Work → Option Made → List Event
answered_by t (Some (works.Command cmd)) (Some (makes.Answered told)) = Event.Answers t (cmd, told) ∷ []
answered_by t _ _ = []

-- The line that a step of mutator `t` told that was made in this phase. One that leaves tells its line where it takes its mailbox: its
-- registers are null from that step on, so what they named may be freed, and that may stand before the step that answers it.
abbrev pub told_by : (t : ℕ) → Phase → Option Work → Option Made → List Event
told_by t Leaving work made = Event.Answers t (commands.Leave, plain answers.Done) ∷ []
told_by t Parting work made = []
told_by t _ work made = answered_by t work made

-- the lines that a move told
abbrev pub told_in : Core → Move → List Event
told_in w (Move.Steps t) = told_by t (mutator w t).phase (work_of (mutator w t)) (answer_of (mutator (stepped w t) t))
told_in w _ = []

-- the lines that some moves told, in the order of the steps that decided them
abbrev pub told_in_all : Core → List Move → List Event
told_in_all w ms = over told_in w ms
