-- One slot more.
use Rattle.std.proofs.Common.{◌∙◌, ◌∷◌, ◌++◌, [], map, ap, arith, sym}
use Rattle.std.proofs.lemmas.List.{map-append}
use Rattle.std.proofs.lemmas.List.FromFn.{map-range_with_len_more}
use Rattle.recycler_watch.specs.Seen.{slot_of, slot_seen}
use Rattle.recycler_watch.proofs.state.slots_of.Goals as goal

pub loop-slot-preserved : goal.loop-slot-preserved
loop-slot-preserved c =
    ap (map slot_seen) c.in_ok-push.ensures.items ∙ map-append slot_seen c.loop-slot.slots.items (c.in_ok-slot_of.field-0 ∷ [])
    ∙ (λ i. c.loop-slot.invariant i ++ c.in_ok-slot_of.ensures i ∷ []) ∙ sym (map-range_with_len_more (slot_of c.args.world.now) 0 c.loop-slot.slot c.loop-slot.slot (omega arith))
