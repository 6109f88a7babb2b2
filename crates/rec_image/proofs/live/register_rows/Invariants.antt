-- The rows of the mutators so far.
use Rattle.std.proofs.Common.{◌≡◌, take}
use Rattle.std.specs.List.{flat_map}
use Rattle.rec_world.specs.World.{sight}
use Rattle.rec_image.specs.Standing.{held_of}
use Rattle.rec_image.proofs.live.register_rows.Given as goal

abbrev pub invariant-loop-t : goal.invariant-loop-t
invariant-loop-t l = l.held.items ≡ flat_map (λ own. own) (take l.t (held_of (sight l.world) l.numbering.list))
