-- The contract of `look_at`: what is seen of a slot.
use Rattle.std.proofs.Common.{refl, arith}
use Rattle.recycler_c.proofs.looking.look_at.Goals as goal

pub returns-then-slot-from : goal.returns-then-slot-from
returns-then-slot-from c = λ t. (record { world = c.args.world.now; is = refl; lacks = omega arith }, refl)

pub returns : goal.returns
returns c = λ t. record { world = c.args.world.now; is = refl; there = omega arith; told_so = cc }
