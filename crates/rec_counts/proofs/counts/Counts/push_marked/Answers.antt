-- The contract of `Counts::push_marked`: appends `slot` to the marked list.
use Rattle.std.proofs.Common.{◌≡◌, ◌<◌, length, arith}
use Rattle.rec_counts.specs.Lists.{times}
use Rattle.rec_counts.proofs.Keeping.{relisted}
use Rattle.rec_counts.proofs.Times.{once_push, room_once}
use Rattle.rec_counts.proofs.counts.Counts.push_marked.Goals as goal

pub push-requires : goal.push-requires
push-requires c =
    let l : c.args.slot < length c.self.inside.slots.items = rw (← c.self.view_is) at c.requires.in_range in
    let new : times c.args.slot c.self.inside.marked.list ≡ 0 = rw (← c.self.view_is) at c.requires.new in
    omega (arith, room_once _ _ _ c.self.invariant.0.marked_once new l, c.self.invariant.1.marked_room)

pub invariant_of-self : goal.invariant_of-self
invariant_of-self c =
    let l : c.args.slot < length c.self.inside.slots.items = rw (← c.self.view_is) at c.requires.in_range in
    let new : times c.args.slot c.self.inside.marked.list ≡ 0 = rw (← c.self.view_is) at c.requires.new in
    rw c.push.ensures (relisted c.self.invariant.0 (once_push _ _ _ c.self.invariant.0.marked_once new l) c.self.invariant.0.work_once c.self.invariant.0.zeros_once c.self.invariant.0.free_once, c.self.invariant.1)
