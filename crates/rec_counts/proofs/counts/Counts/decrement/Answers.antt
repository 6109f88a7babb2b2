-- The contract of `Counts::decrement`: counts one reference to `slot` less.
use Rattle.std.proofs.Common.{◌≡◌, ℕ, ◌<◌, length, get_or, arith, refl, sym, ◌∙◌, ap}
use Rattle.std.proofs.lemmas.List.{get_or_read, length-set}
use Rattle.rec_counts.specs.declared.slot.Slot.{Slot}
use Rattle.rec_counts.specs.declared.slot.Due.{Due}
use Rattle.rec_counts.specs.declared.slot.Due.TheVariants.{Nothing, Root, Zero}
use Rattle.rec_counts.specs.Counts.{State, decremented, sent, with_slot}
use Rattle.rec_counts.specs.Slot.{absent, due_of, lessened}
use Rattle.rec_counts.proofs.Keeping.{keep_slot, root_room}
use Rattle.rec_counts.proofs.Lessening.{to_zeros, to_roots, keep_zero, keep_root, new_zero, room_kept, to_nothing}
use Rattle.rec_counts.proofs.Times.{room_once}
use Rattle.rec_counts.proofs.counts.Counts.decrement.Goals as goal

pub push-requires : goal.push-requires
push-requires c =
    let l : c.args.slot < length c.self.inside.slots.items = rw (← c.self.view_is) at c.requires.in_range in
    let e : c.index_mut.result.now ≡ get_or c.self.inside.slots.items c.args.slot absent = get_or_read _ _ _ l c.index_mut.ensures.value absent in
    let t = to_zeros c.index_mut.result.now (sym c.lessen.ensures.due ∙ c.in-Zero.is) in
    let n = new_zero c.args.slot c.self.inside.zeros.list t e (rw (← c.self.view_is) at c.requires.new_zero) in
    omega (arith, room_once _ _ _ c.self.invariant.0.zeros_once n l, c.self.invariant.1.zeros_room)

pub invariant_of-self-in-Zero : goal.invariant_of-self-in-Zero
invariant_of-self-in-Zero c =
    let l : c.args.slot < length c.self.inside.slots.items = rw (← c.self.view_is) at c.requires.in_range in
    let e : c.index_mut.result.now ≡ get_or c.self.inside.slots.items c.args.slot absent = get_or_read _ _ _ l c.index_mut.ensures.value absent in
    let t = to_zeros c.index_mut.result.now (sym c.lessen.ensures.due ∙ c.in-Zero.is) in
    let n = new_zero c.args.slot c.self.inside.zeros.list t e (rw (← c.self.view_is) at c.requires.new_zero) in
    rw (c.push.ensures, c.lessen.ensures.after) (keep_zero c.self.invariant.0 c.args.slot _ l t e n, room_kept c.self.invariant.1 (length-set c.self.inside.slots.items c.args.slot _))

pub push-requires-in-Root : goal.push-requires-in-Root
push-requires-in-Root c =
    let l : c.args.slot < length c.self.inside.slots.items = rw (← c.self.view_is) at c.requires.in_range in
    let e : c.index_mut.result.now ≡ get_or c.self.inside.slots.items c.args.slot absent = get_or_read _ _ _ l c.index_mut.ensures.value absent in
    let t = to_roots c.index_mut.result.now (sym c.lessen.ensures.due ∙ c.in-Root.is) in
    omega (arith, root_room c.self.invariant.0 c.args.slot l (ap (λ (w : Slot). w.buffered) (sym e) ∙ t.unbuffered), c.self.invariant.1.roots_room)

pub invariant_of-self-in-Root : goal.invariant_of-self-in-Root
invariant_of-self-in-Root c =
    let l : c.args.slot < length c.self.inside.slots.items = rw (← c.self.view_is) at c.requires.in_range in
    let e : c.index_mut.result.now ≡ get_or c.self.inside.slots.items c.args.slot absent = get_or_read _ _ _ l c.index_mut.ensures.value absent in
    let t = to_roots c.index_mut.result.now (sym c.lessen.ensures.due ∙ c.in-Root.is) in
    rw (c.push-in-Root.ensures, c.lessen.ensures.after) (keep_root c.self.invariant.0 c.args.slot _ l t e, room_kept c.self.invariant.1 (length-set c.self.inside.slots.items c.args.slot _))

pub invariant_of-self : goal.invariant_of-self
invariant_of-self c =
    let l : c.args.slot < length c.self.inside.slots.items = rw (← c.self.view_is) at c.requires.in_range in
    let e : c.index_mut.result.now ≡ get_or c.self.inside.slots.items c.args.slot absent = get_or_read _ _ _ l c.index_mut.ensures.value absent in
    let n = to_nothing c.index_mut.result.now (sym c.lessen.ensures.due ∙ c.in-Nothing.is) in
    rw c.lessen.ensures.after (
      keep_slot c.self.invariant.0 c.args.slot (lessened c.index_mut.result.now) (n.buffered ∙ ap (λ (w : Slot). w.buffered) e) (n.set ∙ ap (λ (w : Slot). w.set) e),
      room_kept c.self.invariant.1 (length-set c.self.inside.slots.items c.args.slot _),
    )

-- the slot is lessened, and goes where it is due
sent_on : (s now : State) (x : ℕ) (v w : Slot) (d : Due) → s ≡ now → x < length now.slots → w ≡ get_or s.slots x w → v ≡ lessened w → d ≡ due_of w → sent d (with_slot s x v) x ≡ decremented now x
sent_on s now x v w d i l e h q = rw (← i) (rw (q, h, get_or_read s.slots x w (rw (← i) at l) e absent) refl)

pub returns-in-Nothing : goal.returns-in-Nothing
returns-in-Nothing c = sent_on _ _ _ _ _ Nothing c.self.view_is c.requires.in_range c.index_mut.ensures.value c.lessen.ensures.after (sym c.in-Nothing.is ∙ c.lessen.ensures.due)

pub returns-in-Zero : goal.returns-in-Zero
returns-in-Zero c =
    rw c.push.ensures (sent_on _ _ _ _ _ Zero c.self.view_is c.requires.in_range c.index_mut.ensures.value c.lessen.ensures.after (sym c.in-Zero.is ∙ c.lessen.ensures.due))

pub returns-in-Root : goal.returns-in-Root
returns-in-Root c =
    rw c.push-in-Root.ensures (sent_on _ _ _ _ _ Root c.self.view_is c.requires.in_range c.index_mut.ensures.value c.lessen.ensures.after (sym c.in-Root.is ∙ c.lessen.ensures.due))
