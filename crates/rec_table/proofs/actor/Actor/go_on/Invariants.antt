-- The loop of `Actor::go_on`: the work goes on from whichever record and list it came so far, and ends in time.
use Rattle.std.proofs.Common.{◌≡◌, ◌-◌, List, Some}
use Rattle.rec_table.proofs.Common.{Beat, KeepsSizes, Private, work_of, limit_of, mutator_now, IsTold, Works}
use Rattle.rec_table.specs.declared.start.Start.{Start}
use Rattle.rec_table.specs.Straight.{Path}
use Rattle.rec_table.proofs.actor.Actor.go_on.Given as goal

abbrev pub invariant-loop-made : goal.invariant-loop-made
invariant-loop-made l = record {
  is : l.self ≡ record l.fn.self { log = l.self.log };
  work : work_of (mutator_now l.self) ≡ Some l.fn.work;
  told : IsTold (mutator_now l.self).phase;
  path : (start : Start) (p : Private) (log : List Beat) → start.work ≡ l.fn.work → Path start p log l.fn.self.log (mutator_now l.fn.self) → Path start p log l.self.log (mutator_now l.self);
  grows : (log : List Beat) → Works l.fn.work log l.fn.self.log → Works l.fn.work log l.self.log;
  same : KeepsSizes (mutator_now l.fn.self) (mutator_now l.self);
}

abbrev pub decreases-loop-made : goal.decreases-loop-made
decreases-loop-made l = limit_of (mutator_now l.self).slots l.fn.work - (mutator_now l.self).steps
