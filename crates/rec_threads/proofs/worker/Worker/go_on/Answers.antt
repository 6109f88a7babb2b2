-- The contract of `Worker::go_on`: polls, carries out a command, and notes what is told.
use Rattle.std.proofs.Common.{[], ◌∷◌, refl, ◌∙◌}
use Rattle.rec_mutator.specs.declared.work.Work.TheVariants as works
use Rattle.rec_threads.specs.declared.worker.Worker.{Worker}
use Rattle.rec_threads.proofs.Lists.{together}
use Rattle.rec_threads.proofs.Works.{commanded, made_on, polled}
use Rattle.rec_threads.proofs.worker.Worker.go_on.Goals as goal

pub returns : goal.returns
returns c =
    let before : Worker = c.args.self.now in
    let between : Worker = together c.poll.new.self before.journal in
    let after : Worker = together c.command-told.new.self c.note.new.self in
    let poll = c.poll.ensures in
    let told = c.command-told.ensures in
    made_on [] (c.args.cmd ∷ []) (works.Poll ∷ []) (works.Command c.args.cmd ∷ []) before between after (polled before between refl poll.grows poll.is poll.line poll.same poll.left)
    (commanded c.args.cmd c.command-told.result between after c.note.ensures.lines c.note.ensures.room c.requires.room told.grows told.is told.line told.same
    (poll.left ∙ c.requires.valid.1) told.leaves.left)
