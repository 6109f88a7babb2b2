-- The lines so far are those of the objects, which some image has.
use Rattle.std.proofs.Common.{◌≡◌, ◌++◌, length}
use Rattle.std.specs.List.{flat_map}
use Rattle.rec_image.specs.Drafts.{AreObjects, objects_in}
use Rattle.rec_image.specs.Image.{object_line}
use Rattle.rec_image.proofs.reading.read_objects.Given as goal

abbrev pub invariant-loop-heap : goal.invariant-loop-heap
invariant-loop-heap l = record {
  are : AreObjects l.heap l.objects;
  lines : l.fn.bytes ≡ flat_map object_line (objects_in l.heap l.objects) ++ l.rest;
}

abbrev pub decreases-loop-heap : goal.decreases-loop-heap
decreases-loop-heap l = length l.rest
