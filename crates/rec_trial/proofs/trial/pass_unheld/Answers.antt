-- The contract of `pass_unheld`: the marked slots before the one that it answers are passed.
use Rattle.std.proofs.Common.{length, arith, ap}
use Rattle.rec_trial.proofs.Conditions.{marked_in_range}
use Rattle.rec_trial.proofs.trial.pass_unheld.Goals as goal

pub is_held-requires : goal.is_held-requires
is_held-requires c = rw c.marked-marked.ensures (marked_in_range c.args.counts.now c.requires c.loop-tried.tried (omega (arith, c.loop-tried-test.true, ap length c.marked-marked.ensures)))
