-- The contract of `Counts::pop_root`: takes the first slot out of the root buffer, or answers None where that is empty.
use Rattle.std.proofs.Common.{◌≡◌, ◌<◌, length, get_or, ◌∷◌, drop, rules, sym, ◌∙◌, ap, refl}
use Rattle.std.proofs.lemmas.List.{get_or_read, length-set}
use Rattle.rec_counts.specs.declared.slot.Slot.{Slot}
use Rattle.rec_counts.specs.Slot.{absent}
use Rattle.rec_counts.proofs.Keeping as keeping
use Rattle.rec_counts.proofs.Lessening.{room_kept}
use Rattle.rec_counts.proofs.counts.Counts.pop_root.Goals as goal
use Rattle.rec_counts.proofs.Front.{first_and_rest}

pub index_mut-requires : goal.index_mut-requires
index_mut-requires c =
    let e : c.self.inside.roots.list ≡ c.in_ok-slot.slot ∷ drop 1 c.self.inside.roots.list = first_and_rest _ _ (sym c.pop.ensures.first ∙ c.in_ok-slot.was) in
    let l : c.in_ok-slot.slot < length c.self.inside.slots.items = keeping.first_root_in_range c.self.invariant.0 c.in_ok-slot.slot _ e in
    search rules

pub invariant_of-self-2 : goal.invariant_of-self-2
invariant_of-self-2 c =
    let e : c.self.inside.roots.list ≡ c.in_ok-slot.slot ∷ drop 1 c.self.inside.roots.list = first_and_rest _ _ (sym c.pop.ensures.first ∙ c.in_ok-slot.was) in
    let l : c.in_ok-slot.slot < length c.self.inside.slots.items = keeping.first_root_in_range c.self.invariant.0 c.in_ok-slot.slot _ e in
    let v : c.index_mut.result.now ≡ get_or c.self.inside.slots.items c.in_ok-slot.slot absent = get_or_read _ _ _ l c.index_mut.ensures.value absent in
    rw c.pop.ensures.rest (keeping.keep_pop_root c.self.invariant.0 c.in_ok-slot.slot _ _ e refl (ap (λ (w : Slot). w.set) v), room_kept c.self.invariant.1 (length-set c.self.inside.slots.items c.in_ok-slot.slot _))
