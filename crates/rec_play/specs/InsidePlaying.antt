-- What the fields of a `Playing` stand for.
use Rattle.rec_play.specs.Moves.{AreDue, Player}
use Rattle.rec_play.specs.declared.player.Playing.TheInside.{Inside}

abbrev pub player : Inside → Player
player s = record { script = s.script.now; rest = s.schedule; made = s.made }

-- what the fields keep
abbrev pub AreAllDue : Inside → Type 0
AreAllDue s = AreDue (player s)
