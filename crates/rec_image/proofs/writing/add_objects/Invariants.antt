-- The lines of the slots so far are written.
use Rattle.std.proofs.Common.{◌≡◌, ◌++◌, map, take}
use Rattle.std.specs.List.{flat_map}
use Rattle.rec_world.specs.World.{sight}
use Rattle.rec_image.specs.Image.{object_line}
use Rattle.rec_image.specs.Standing.{node_of}
use Rattle.rec_image.proofs.writing.add_objects.Given as goal

abbrev pub invariant-loop-i : goal.invariant-loop-i
invariant-loop-i l = l.text.items ≡ l.fn.text.items ++ flat_map object_line (map (node_of (sight l.world) l.numbering.list) (take l.i l.numbering.list))
