-- The lines make the text of the world's image.
use Rattle.std.proofs.Common.{refl}
use Rattle.rec_image.proofs.Worlds.{written_text}
use Rattle.rec_image.proofs.writing.add_lines.Goals as goal

pub returns : goal.returns
returns c =
    written_text c.args.world.now c.args.numbering.now.list c.args.heap.slots c.args.heap.fields c.args.heap.registers c.args.heap.mutators c.args.lines.now.items _ _ _ _ c.extend_from_slice.new.self.items _
    c.requires.slots c.requires.fields c.requires.registers c.requires.mutators c.requires.none refl refl c.in_ok-add_front.ensures c.in_ok-add_objects.ensures c.in_ok-add_registers.ensures c.in_ok-extend_from_slice.ensures.items
