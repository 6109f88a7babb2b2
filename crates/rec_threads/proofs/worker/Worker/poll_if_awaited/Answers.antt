-- The contract of `Worker::poll_if_awaited`: polls if the collector waits for it, and tells how often it did.
use Rattle.std.proofs.Common.{refl}
use Rattle.rec_threads.specs.declared.worker.Worker.{Worker}
use Rattle.rec_threads.proofs.Lists.{together}
use Rattle.rec_threads.proofs.Works.{made_none, polled}
use Rattle.rec_threads.proofs.worker.Worker.poll_if_awaited.Goals as goal

pub returns-then-not-is_awaited-clause-made : goal.returns-then-not-is_awaited-clause-made
returns-then-not-is_awaited-clause-made c = made_none c.args.self.now

pub returns-clause-made : goal.returns-clause-made
returns-clause-made c =
    let after : Worker = together c.poll.new.self c.args.self.now.journal in
    let poll = c.poll.ensures in
    polled c.args.self.now after refl poll.grows poll.is poll.line poll.same poll.left
