-- Why a heap isn't opened.
use Rattle.rec_core.specs.Config.{IsConfig, IsFirstWrong}
use Rattle.rec_core.specs.declared.config.Config.{Config}
use Rattle.rec_world.specs.declared.open_error.OpenError.{OpenError}
use Rattle.rec_world.specs.declared.open_error.OpenError.TheVariants as errors

-- why a heap isn't opened: the first wrong number is named; want of memory comes only where every number is in its range
abbrev pub IsRefused : Config → OpenError → Type 0
IsRefused config (errors.Config part) = IsFirstWrong config part
IsRefused config errors.NoMemory = IsConfig config
