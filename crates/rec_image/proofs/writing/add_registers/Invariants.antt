-- The lines of the mutators so far are written.
use Rattle.std.proofs.Common.{◌≡◌, ◌++◌, take}
use Rattle.std.specs.List.{flat_map}
use Rattle.rec_world.specs.World.{sight}
use Rattle.rec_image.specs.Image.{registers_line}
use Rattle.rec_image.specs.Standing.{held_of}
use Rattle.rec_image.proofs.writing.add_registers.Given as goal

abbrev pub invariant-loop-t : goal.invariant-loop-t
invariant-loop-t l = l.text.items ≡ l.fn.text.items ++ flat_map registers_line (take l.t (held_of (sight l.world) l.numbering.list))
