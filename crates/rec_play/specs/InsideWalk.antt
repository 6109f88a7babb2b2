-- What the fields of a walk stand for.
use Rattle.rec_play.specs.Watched.{IsWatched, Watched}
use Rattle.rec_play.specs.declared.walk.Walk.TheInside.{Inside}

abbrev pub watched : Inside → Watched
watched s = record { script = s.playing.script; rule = s.rule.value; stage = s.stage; rest = s.playing.rest; made = s.playing.made; world = s.world }

-- what the fields of every walk keep
abbrev pub IsKept : Inside → Type 0
IsKept s = IsWatched (watched s)
