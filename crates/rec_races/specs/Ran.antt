-- What became of a world whose heap ran.
use Rattle.std.specs.Prelude.{List}
use Rattle.rec_core.specs.Core.{Core}
use Rattle.rec_table.specs.Ends.{IsStopped}
use Rattle.rec_table.specs.declared.views.Beat.{Beat}

-- Whatever its threads did between one another, their lists made up one run from the world that was started to the world that is left.
-- The run is a legal order of the answers, and every law of runs held at each of its moments.
pub record Ran (started left : Core) : Type 0 where
  pub collected : List Beat
  pub lists : List (List Beat)
  pub stopped : IsStopped started collected lists left
