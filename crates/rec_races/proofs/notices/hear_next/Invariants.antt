-- The loop of `hear_next`: listens until a label is there.
use Rattle.rec_notice.specs.Ring.{SameListener}
use Rattle.rec_races.proofs.notices.hear_next.Given as goal

abbrev pub invariant-loop : goal.invariant-loop
invariant-loop l = SameListener l.fn.listener l.listener
