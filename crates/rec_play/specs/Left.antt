-- How many moves a run has left, at most.
use Rattle.std.specs.Prelude.{ℕ, ◌+◌, ◌*◌, length}
use Rattle.rec_settle.specs.Left.{left_in, most_turns}
use Rattle.rec_play.specs.Playing.{to_come}
use Rattle.rec_play.specs.Watched.{Watched}
use Rattle.rec_play.specs.declared.stage.Stage.{Stage}
use Rattle.rec_play.specs.declared.stage.Stage.TheVariants.{Playing, Settling, EpochsSpent}

-- The turns of the rule, and then those of settling.
abbrev pub left_at : Stage → Watched → ℕ
left_at Playing w = length (to_come w.rest) + 5 * most_turns w.world.config
left_at (Settling to) w = left_in to w.world
left_at EpochsSpent w = 0

abbrev pub moves_left : Watched → ℕ
moves_left w = left_at w.stage w
