-- The contract of `Counts::clear_roots`: empties the root buffer.
use Rattle.std.proofs.Common.{◌≡◌, ◌++◌, length, map, take, drop, refl, ◌∙◌}
use Rattle.std.proofs.lemmas.List.{take_at, length-map}
use Rattle.rec_counts.specs.Slot.{unrooted}
use Rattle.rec_counts.proofs.Keeping.{keep_clear_roots}
use Rattle.rec_counts.proofs.Leaving.{roots_left}
use Rattle.rec_counts.proofs.Lessening.{room_kept}
use Rattle.rec_counts.proofs.counts.Counts.clear_roots.Goals as goal

pub invariant_of-self : goal.invariant_of-self
invariant_of-self c =
    let whole : take c.self.inside.slots.len (c.unbuffer.new.slots ++ drop (length c.unbuffer.new.slots) c.self.inside.slots.items) ≡ c.unbuffer.new.slots = take_at _ _ _ (c.unbuffer.auto.slots ∙ c.deref_mut.ensures.len) in
    let left : c.unbuffer.new.slots ≡ map unrooted c.self.inside.slots.items = roots_left c.self.invariant.0 c.deref_mut.result.now c.unbuffer.new.slots c.as_slice.result.now c.deref_mut.ensures.value c.as_slice.ensures c.unbuffer.auto.slots c.unbuffer.ensures in
    rw (whole, left, c.clear.ensures) (keep_clear_roots c.self.invariant.0, room_kept c.self.invariant.1 (length-map c.self.inside.slots.items unrooted))

pub returns : goal.returns
returns c =
    let whole : take c.self.inside.slots.len (c.unbuffer.new.slots ++ drop (length c.unbuffer.new.slots) c.self.inside.slots.items) ≡ c.unbuffer.new.slots = take_at _ _ _ (c.unbuffer.auto.slots ∙ c.deref_mut.ensures.len) in
    let left : c.unbuffer.new.slots ≡ map unrooted c.self.inside.slots.items = roots_left c.self.invariant.0 c.deref_mut.result.now c.unbuffer.new.slots c.as_slice.result.now c.deref_mut.ensures.value c.as_slice.ensures c.unbuffer.auto.slots c.unbuffer.ensures in
    rw (← c.self.view_is, c.clear.ensures, whole, left) refl
