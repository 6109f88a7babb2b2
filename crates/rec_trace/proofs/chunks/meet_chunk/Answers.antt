-- Each slot of the chunk is one that there is, and joins those before it.
use Rattle.std.proofs.Common.{◌<◌, get_or, sym, subst, ◌∙◌}
use Rattle.rec_trace.proofs.Joining.{at_place, joined_next}
use Rattle.rec_trace.proofs.chunks.meet_chunk.Goals as goal

pub meet-requires : goal.meet-requires
meet-requires c =
    subst (λ n. get_or c.args.chunk.now c.loop-slot.slot-index 0 < n) (sym c.loop-slot.invariant.slots)
    (at_place (λ s. s < c.args.found.now.slots) c.args.chunk.now c.requires c.loop-slot.slot-index 0 c.loop-slot-test.true)

pub loop-slot-preserved : goal.loop-slot-preserved
loop-slot-preserved c = record {
  slots = c.meet.ensures.slots ∙ c.loop-slot.invariant.slots;
  list = joined_next _ _ _ c.args.chunk.now c.loop-slot.slot-index 0 c.loop-slot.invariant.list c.loop-slot-test.true c.meet.ensures.joined;
}
