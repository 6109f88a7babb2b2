-- There is room for each mailbox.
use Rattle.std.proofs.Common.{◌≡◌, ◌≤◌, Some, length, ap, ◌∙◌, arith}
use Rattle.std.proofs.lemmas.List.{length-replicate}
use Rattle.std.specs.Vec.{vec_capacity}
use Rattle.rec_world.proofs.Common.{spare_of}
use Rattle.rec_world.proofs.mailbox.open_boxes.Goals as goal

pub push_reserved-requires : goal.push_reserved-requires
push_reserved-requires c =
    let many : length c.loop.boxes.items ≡ c.loop.counter = ap length c.loop.invariant.boxes ∙ length-replicate c.loop.counter (Some (spare_of c.args.config.now)) in
    let room : c.args.config.now.mutators ≤ vec_capacity c.loop.boxes = c.loop.invariant.room in
    omega (arith, c.loop.boxes.ok.0)
