-- Each slot of the list is reached, so its fields stand among the words, and their targets join the list.
use Rattle.std.proofs.Common.{◌<◌, ◌∙◌, length}
use Rattle.rec_world.proofs.Filled.{filled_registers, filled_fields, fields_within}
use Rattle.rec_world.proofs.numbering.Numbering.fill.Goals as goal

pub loop-next-init : goal.loop-next-init
loop-next-init c = record {
  slots = c.meet_machines.ensures.slots ∙ c.clear.ensures.slots;
  filled = filled_registers _ _ _ _ _ c.clear.ensures.empty c.meet_machines.ensures.joined;
}

pub slice_bounds-meet_fields-end : goal.slice_bounds-meet_fields-end
slice_bounds-meet_fields-end c =
    let in_list : c.loop-next.next < length c.loop-next.self.list = rw c.list.ensures.list at c.loop-next-test.true in
    fields_within _ _ _ _ _ _ _ _ _ _ c.loop-next.invariant.filled c.requires.names c.requires.places c.list-in-loop-next.ensures.list in_list c.from.ensures c.from-in-loop-next.ensures c.from-in-loop-next-2.ensures

pub loop-next-preserved : goal.loop-next-preserved
loop-next-preserved c =
    let in_list : c.loop-next.next < length c.loop-next.self.list = rw c.list.ensures.list at c.loop-next-test.true in
    record {
      slots = c.meet_fields.ensures.slots ∙ c.loop-next.invariant.slots;
      filled = filled_fields _ _ _ _ _ _ _ _ _ _ c.loop-next.invariant.filled c.list-in-loop-next.ensures.list in_list c.from.ensures c.from-in-loop-next.ensures c.from-in-loop-next-2.ensures c.meet_fields.ensures.joined;
    }
