-- The contract of `Counts::free_work`: moves the work list to the end of the free list, in its order.
use Rattle.std.proofs.Common.{◌≡◌, ℕ, ◌<◌, length, arith}
use Rattle.std.proofs.lemmas.List.{length-append}
use Rattle.rec_counts.specs.Lists.{times}
use Rattle.rec_counts.proofs.Keeping.{relisted}
use Rattle.rec_counts.proofs.Times.{both_once, length-once, once_none}
use Rattle.rec_counts.proofs.counts.Counts.free_work.Goals as goal

pub push_all-requires : goal.push_all-requires
push_all-requires c =
    let new : (x : ℕ) → 0 < times x c.self.inside.work.list → times x c.self.inside.free.list ≡ 0 = rw (← c.self.view_is) at c.requires in
    let once = both_once (length c.self.inside.slots.items) c.self.inside.free.list c.self.inside.work.list c.self.invariant.0.free_once c.self.invariant.0.work_once new in
    rw c.as_slice.ensures (omega (arith, length-once _ _ once, length-append c.self.inside.free.list c.self.inside.work.list, c.self.invariant.1.free_room))

pub invariant_of-self : goal.invariant_of-self
invariant_of-self c =
    let new : (x : ℕ) → 0 < times x c.self.inside.work.list → times x c.self.inside.free.list ≡ 0 = rw (← c.self.view_is) at c.requires in
    let once = both_once (length c.self.inside.slots.items) c.self.inside.free.list c.self.inside.work.list c.self.invariant.0.free_once c.self.invariant.0.work_once new in
    rw (c.clear.ensures, c.push_all.ensures, c.as_slice.ensures) (relisted c.self.invariant.0 c.self.invariant.0.marked_once (once_none _) c.self.invariant.0.zeros_once once, c.self.invariant.1)
