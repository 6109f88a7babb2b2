-- The lines that a mutator's list tells.
use Rattle.std.specs.Prelude.{◌≡◌, ℕ, ◌+◌, Option, Some, List, [], ◌∷◌, ◌++◌}
use Rattle.rec_model.specs.Asking.{plain}
use Rattle.rec_model.specs.LegalOrder.{Line}
use Rattle.rec_model.specs.declared.answer.Answer.TheVariants as answers
use Rattle.rec_model.specs.declared.command.Cmd.TheVariants as commands
use Rattle.rec_mutator.specs.Private.{Private, work_of, answer_of}
use Rattle.rec_mutator.specs.declared.made.Made.{Made}
use Rattle.rec_mutator.specs.declared.made.Made.TheVariants as makes
use Rattle.rec_mutator.specs.declared.phase.Phase.{Phase}
use Rattle.rec_mutator.specs.declared.phase.Phase.TheVariants.{Leaving, Parting}
use Rattle.rec_mutator.specs.declared.work.Work.{Work}
use Rattle.rec_mutator.specs.declared.work.Work.TheVariants as works
use Rattle.rec_core.specs.Core.{Core, mutator}
use Rattle.rec_table.specs.Beats.{learnt}
use Rattle.rec_table.specs.declared.views.Beat.{Beat}
use Rattle.rec_table.specs.declared.views.Beat.TheVariants.{Saw}

-- the command and what was told, where a work was answered so
abbrev pub line_of : Option Work → Option Made → List Line
line_of (Some (works.Command cmd)) (Some (makes.Answered told)) = (cmd, told) ∷ []
line_of _ _ = []

-- what a step tells that is made in this phase: a mutator that leaves tells its line where it takes its mailbox
abbrev pub line_at : Phase → Option Work → Option Made → List Line
line_at Leaving work made = (commands.Leave, plain answers.Done) ∷ []
line_at Parting work made = []
line_at _ work made = line_of work made

-- what a beat tells from this record
abbrev pub line_in : Private → Beat → List Line
line_in p (Saw word) = line_at p.phase (work_of p) (answer_of (learnt p (Saw word)))
line_in p _ = []

-- and a list
abbrev pub journal : Private → List Beat → List Line
journal p [] = []
journal p (b ∷ bs) = line_in p b ++ journal (learnt p b) bs

-- the journals of the mutators from this one on
abbrev pub journals_from : Core → (k : ℕ) → List (List Beat) → List (List Line)
journals_from w k [] = []
journals_from w k (l ∷ ls) = journal (mutator w (k + 1)) l ∷ journals_from w (k + 1) ls

-- the list grew by beats that tell these lines, from this record
pub record Tells (p : Private) (log log' : List Beat) (lines : List Line) : Type 0 where
  pub beats : List Beat
  pub grows : log' ≡ log ++ beats
  pub tells : journal p beats ≡ lines
