-- How the operands of a line are read, whatever its command is.
use Rattle.std.specs.Prelude.{◌≡◌, ◌≢◌, ℕ, ◌<◌, List, length}
use Rattle.rec_model.specs.declared.limits.TheConstants.{MOST_COMMANDS}
use Rattle.rec_script.specs.declared.error.Kind.{Kind}
use Rattle.rec_script.specs.declared.error.Kind.TheVariants.{BadCommand, TooManyCommands}
use Rattle.rec_script.specs.Script.{AreWrong}

-- what is wrong with operands behind so many commands: their number; else there is one command too many; else an operand
pub data AreMisread (count : ℕ) (limits : List (ℕ × Kind)) (operands : List (List ℕ)) : Kind → Type 0 where
  number : length operands ≢ length limits → AreMisread count limits operands BadCommand
  too_many : length operands ≡ length limits → count ≡ MOST_COMMANDS → AreMisread count limits operands TooManyCommands
  operand : (kind : Kind) → length operands ≡ length limits → count < MOST_COMMANDS → AreWrong limits operands kind → AreMisread count limits operands kind
