-- The marks of the slots so far.
use Rattle.std.proofs.Common.{◌≡◌, map, take}
use Rattle.rec_world.specs.World.{sight}
use Rattle.rec_image.specs.Restored.{mark_of}
use Rattle.rec_image.specs.Standing.{node_of}
use Rattle.rec_image.proofs.live.marks.Given as goal

abbrev pub invariant-loop-i : goal.invariant-loop-i
invariant-loop-i l = l.nodes.items ≡ map mark_of (map (node_of (sight l.world) l.numbering.list) (take l.i l.numbering.list))
