-- The mailboxes so far hold spares, and there is room for the others.
use Rattle.std.proofs.Common.{◌≡◌, ◌≤◌, Some, replicate}
use Rattle.std.specs.Vec.{vec_capacity}
use Rattle.rec_world.proofs.Common.{spare_of}
use Rattle.rec_world.proofs.mailbox.open_boxes.Given as goal

abbrev pub invariant-loop : goal.invariant-loop
invariant-loop l = record {
  boxes : l.boxes.items ≡ replicate l.counter (Some (spare_of l.config));
  room : l.config.mutators ≤ vec_capacity l.boxes;
}
