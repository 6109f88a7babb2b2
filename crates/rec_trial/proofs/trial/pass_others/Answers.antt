-- The contract of `pass_others`: the marked slots before the one that it answers are passed.
use Rattle.std.proofs.Common.{length, arith, ap}
use Rattle.rec_trial.proofs.Conditions.{marked_in_range}
use Rattle.rec_trial.proofs.trial.pass_others.Goals as goal

pub is_white-requires : goal.is_white-requires
is_white-requires c = rw c.marked-marked.ensures (marked_in_range c.args.counts.now c.requires c.loop-tried.tried (omega (arith, c.loop-tried-test.true, ap length c.marked-marked.ensures)))
