-- A step of a mutator: what it leaves, and what came of it.
use Rattle.std.specs.Prelude.{◌≡◌, ℕ, ◌+◌, ◌≤◌, Option, IfSome, is_none}
use Rattle.rec_mutator.specs.Private.{is_busy, answer_of, limit_of, work_of}
use Rattle.rec_mutator.specs.declared.made.Made.{Made}
use Rattle.rec_core.specs.Core.{Core, mutator}
use Rattle.rec_core.specs.Moves.{stepped, EndsRun}
use Rattle.rec_core.specs.StepAnswers.{IsShown}

-- A mutator made the next step of its work, and this came of the work, or nothing where it isn't finished.
pub record IsStep (before : Core) (t : ℕ) (made : Option Made) (after : Core) : Type 0 where
  pub stepped : after ≡ stepped before t
  pub answer : made ≡ answer_of (mutator after t)
  pub busy : is_busy (mutator after t) ≡ is_none made
  -- Where the step decides a command, whatever heap stood for this one explains the answer, and each refusal has its cause; else all
  -- that is seen stays.
  pub shown : IsShown before t made after
  pub work : work_of (mutator after t) ≡ work_of (mutator before t)
  -- each step counts, and a work ends in time
  pub steps : (mutator after t).steps ≡ (mutator before t).steps + 1
  pub limit : IfSome (work_of (mutator after t)) (λ work. (mutator after t).steps ≤ limit_of after.config.slots work)
  pub run : EndsRun after
