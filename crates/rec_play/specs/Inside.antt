-- What the fields of a `Schedule` stand for.
use Rattle.std.specs.Prelude.{◌≡◌}
use Rattle.rec_play.specs.declared.schedule.Schedule.TheInside.{Inside}
use Rattle.rec_play.specs.Playing.{Rest, unfinished}

-- the rule in the middle
abbrev pub rest : Inside → Rest
rest s = record { left = s.left.items; generator = s.generator; turns = s.turns }

-- the unfinished mutators are kept
abbrev pub AreNamed : Inside → Type 0
AreNamed s = s.unfinished.items ≡ unfinished s.left.items
