-- The loops of `Worker::carry_out`: carries out the commands, each behind the gate and a poll, and notes what is told.
use Rattle.std.proofs.Common.{take}
use Rattle.rec_threads.specs.Done.{HasMade, polled_before}
use Rattle.rec_threads.proofs.worker.Worker.carry_out.Given as goal

abbrev pub invariant-loop-index : goal.invariant-loop-index
invariant-loop-index g l = HasMade (take l.index l.commands) (polled_before (take l.index l.commands)) l.fn.self l.self
