-- The contract of `Counts::join_set`: lets `slot`, which is in no buffer, join the last set.
use Rattle.std.proofs.Common.{◌≡◌, ◌-◌, ◌<◌, false, length, get_or, Some, arith, ap, refl}
use Rattle.std.proofs.lemmas.List.{length-set}
use Rattle.rec_counts.specs.Slot.{absent}
use Rattle.rec_counts.proofs.Keeping as keeping
use Rattle.rec_counts.proofs.Lessening.{room_kept}
use Rattle.rec_counts.proofs.counts.Counts.join_set.Goals as goal

pub join-requires-2-clause-room : goal.join-requires-2-clause-room
join-requires-2-clause-room c =
    let l : c.args.slot < length c.self.inside.slots.items = rw (← c.self.view_is) at c.requires.in_range in
    let b : (get_or c.self.inside.slots.items c.args.slot absent).buffered ≡ false = rw (← c.self.view_is) at c.requires.unbuffered in
    omega (arith, keeping.member_room c.self.invariant.0 c.args.slot l b, c.self.invariant.1.sets_room)

pub invariant_of-self : goal.invariant_of-self
invariant_of-self c =
    let l : c.args.slot < length c.self.inside.slots.items = rw (← c.self.view_is) at c.requires.in_range in
    let some : 0 < length c.self.inside.sets.sets = rw (← c.self.view_is) at c.requires.some in
    let b : (get_or c.self.inside.slots.items c.args.slot absent).buffered ≡ false = rw (← c.self.view_is) at c.requires.unbuffered in
    let number : Some (c.len.result - 1) ≡ Some (length c.self.inside.sets.sets - 1) = ap (λ n. Some (n - 1)) c.len.ensures in
    rw (c.join-2.ensures, c.join.ensures) (keeping.keep_join c.self.invariant.0 c.args.slot _ some l b refl number, room_kept c.self.invariant.1 (length-set c.self.inside.slots.items c.args.slot _))
