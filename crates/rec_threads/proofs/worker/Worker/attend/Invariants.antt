-- The loops of `Worker::attend`: polls where the collector waits for it, and lets others run, until the collector's worker has ended.
use Rattle.std.proofs.Common.{◌≤◌, [], replicate}
use Rattle.rec_mutator.specs.declared.work.Work.TheVariants as works
use Rattle.rec_threads.specs.Done.{HasMade}
use Rattle.rec_threads.proofs.worker.Worker.attend.Given as goal

abbrev pub invariant-loop : goal.invariant-loop
invariant-loop g l = record {
  few : l.polls ≤ 65536;
  made : HasMade [] (replicate l.polls works.Poll) l.fn.self l.self;
}
