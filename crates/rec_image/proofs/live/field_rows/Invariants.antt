-- The fields of the slots so far.
use Rattle.std.proofs.Common.{◌≡◌, map, take}
use Rattle.std.specs.List.{flat_map}
use Rattle.rec_world.specs.World.{sight}
use Rattle.rec_image.specs.Restored.{fields_in}
use Rattle.rec_image.specs.Standing.{node_of}
use Rattle.rec_image.proofs.live.field_rows.Given as goal

abbrev pub invariant-loop-i : goal.invariant-loop-i
invariant-loop-i l = l.targets.items ≡ flat_map fields_in (map (node_of (sight l.world) l.numbering.list) (take l.i l.numbering.list))
