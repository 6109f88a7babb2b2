-- The contract of `Counts::push_root`: appends `slot`, which is in no buffer, to the root buffer.
use Rattle.std.proofs.Common.{◌≡◌, ◌<◌, false, length, get_or, arith, ap, refl}
use Rattle.std.proofs.lemmas.List.{get_or_read, length-set}
use Rattle.rec_counts.specs.declared.slot.Slot.{Slot}
use Rattle.rec_counts.specs.Slot.{absent}
use Rattle.rec_counts.proofs.Keeping as keeping
use Rattle.rec_counts.proofs.Lessening.{room_kept}
use Rattle.rec_counts.proofs.counts.Counts.push_root.Goals as goal

pub push-requires : goal.push-requires
push-requires c =
    let l : c.args.slot < length c.self.inside.slots.items = rw (← c.self.view_is) at c.requires.in_range in
    let b : (get_or c.self.inside.slots.items c.args.slot absent).buffered ≡ false = rw (← c.self.view_is) at c.requires.unbuffered in
    omega (arith, keeping.root_room c.self.invariant.0 c.args.slot l b, c.self.invariant.1.roots_room)

pub invariant_of-self : goal.invariant_of-self
invariant_of-self c =
    let l : c.args.slot < length c.self.inside.slots.items = rw (← c.self.view_is) at c.requires.in_range in
    let b : (get_or c.self.inside.slots.items c.args.slot absent).buffered ≡ false = rw (← c.self.view_is) at c.requires.unbuffered in
    let e : c.index_mut.result.now ≡ get_or c.self.inside.slots.items c.args.slot absent = get_or_read _ _ _ l c.index_mut.ensures.value absent in
    rw c.push.ensures (keeping.keep_push_root c.self.invariant.0 c.args.slot _ l b refl (ap (λ (w : Slot). w.set) e), room_kept c.self.invariant.1 (length-set c.self.inside.slots.items c.args.slot _))
