-- The lines so far are those of the registers, which some image has.
use Rattle.std.proofs.Common.{◌≡◌, ◌-◌, ◌≤◌, ◌++◌}
use Rattle.std.specs.List.{flat_map}
use Rattle.rec_image.specs.Drafts.{AreHeld, held_in, objects_in}
use Rattle.rec_image.specs.Image.{registers_line}
use Rattle.rec_image.proofs.reading.read_held.Given as goal

abbrev pub invariant-loop-held : goal.invariant-loop-held
invariant-loop-held l = record {
  are : AreHeld l.heap (objects_in l.heap l.objects) l.held;
  lines : l.fn.bytes ≡ flat_map registers_line (held_in l.heap l.held) ++ l.rest;
  within : l.held.rows ≤ l.heap.mutators;
}

abbrev pub decreases-loop-held : goal.decreases-loop-held
decreases-loop-held l = l.heap.mutators - l.held.rows
