-- The contract of `collect`: lets what a field of a member leads to join the last set, where it is White.
use Rattle.std.proofs.Common.{refl}
use Rattle.rec_trial.proofs.Conditions.{unbuffered_white}
use Rattle.rec_trial.proofs.collecting.collect.Goals as goal

pub join-requires-clause-unbuffered : goal.join-requires-clause-unbuffered
join-requires-clause-unbuffered c = unbuffered_white c.args.counts.now c.rules.ensures c.requires.rules c.in-Some.slot (rw (← c.in-White.ensures) refl)
