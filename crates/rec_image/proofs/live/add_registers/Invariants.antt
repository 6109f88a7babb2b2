-- The registers so far stand behind the others.
use Rattle.std.proofs.Common.{◌≡◌, ◌++◌, map, take}
use Rattle.rec_image.specs.Standing.{listed_place}
use Rattle.rec_image.proofs.live.add_registers.Given as goal

abbrev pub invariant-loop-register : goal.invariant-loop-register
invariant-loop-register l = l.held.items ≡ l.fn.held.items ++ map (listed_place l.numbering.list) (take l.register-index l.registers)
