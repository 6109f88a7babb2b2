-- The moves before the window are passed, and those in it told.
use Rattle.recycler_watch.proofs.Running.{traced}
use Rattle.recycler_watch.proofs.tell.Teller.tell.Goals as goal

pub returns-clause-trace : goal.returns-clause-trace
returns-clause-trace g c is = traced _ _ _ _ _ _ _ _ _ _ c.pass.ensures.asked is c.pass.ensures.passed c.in_ok-tell_window.ensures.told c.in_ok-flush.ensures.bytes
