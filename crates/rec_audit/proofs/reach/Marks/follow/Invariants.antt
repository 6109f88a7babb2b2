-- The loop of `follow`: what is marked so far.
use Rattle.std.proofs.Common.{◌-◌, nat_eq, length, map}
use Rattle.std.specs.HashSet.{contains}
use Rattle.rec_audit.proofs.Marking.{IsFollowing}
use Rattle.rec_audit.proofs.reach.Marks.follow.Given as goal

abbrev pub invariant-loop-i : goal.invariant-loop-i
invariant-loop-i l = IsFollowing (contains nat_eq l.dead) (map (λ v. v.items) l.fn.lists.items) (map (λ v. v.items) l.lists.items) l.start l.fn.self l.self l.i

abbrev pub decreases-loop-i : goal.decreases-loop-i
decreases-loop-i l = length l.self.marked.items - l.i
