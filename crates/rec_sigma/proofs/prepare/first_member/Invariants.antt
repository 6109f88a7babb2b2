-- The loops of `first_member`: the first member of the first set that has one, from this number on.
use Rattle.std.proofs.Common.{◌≡◌, drop}
use Rattle.rec_sigma.specs.Prepare.{first_of}
use Rattle.rec_sigma.proofs.prepare.first_member.Given as goal

abbrev pub invariant-loop-set : goal.invariant-loop-set
invariant-loop-set l = first_of l.set (drop l.set l.counts.sets) ≡ first_of l.from (drop l.from l.counts.sets)
