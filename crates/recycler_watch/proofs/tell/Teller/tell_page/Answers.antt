-- Telling changes nothing of what is asked.
use Rattle.std.proofs.Common.{refl}
use Rattle.recycler_watch.proofs.tell.Teller.tell_page.Goals as goal

pub returns-in_err-write_all : goal.returns-in_err-write_all
returns-in_err-write_all g c = refl

pub returns-in_err-tell_moves : goal.returns-in_err-tell_moves
returns-in_err-tell_moves g c = c.tell_moves.ensures.asked

pub returns : goal.returns
returns g c = c.tell_moves.ensures.asked
