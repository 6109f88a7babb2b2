-- The lines make the text of the world's image.
use Rattle.std.proofs.Common.{ℕ, length, ap, arith}
use Rattle.rec_image.proofs.Worlds.{written}
use Rattle.rec_image.proofs.writing.write.Goals as goal

pub returns : goal.returns
returns c = record {
  image = written c.args.world.now c.in_ok-numbering.numbering.list _ c.heap_of-heap.ensures.kept c.requires.settled c.in_ok-numbering.ensures.numbers
      (omega (arith, ap (length {A = ℕ}) c.list.ensures.list, c.list.ensures.few, c.in_ok-numbering.ensures.slots)) c.in_ok-add_lines.ensures;
  listed = (c.in_ok-numbering.numbering.list, c.in_ok-numbering.ensures.numbers, c.in_ok-add_lines.ensures);
}
