-- The rows of a world make up its image.
use Rattle.std.proofs.Common.{sym, subst}
use Rattle.rec_image.specs.Image.{ImageContents, IsImage}
use Rattle.rec_image.specs.Standing.{image_of}
use Rattle.rec_image.proofs.Rowed.{contents_are, fields_kept, registers_kept}
use Rattle.rec_image.proofs.Worlds.{few_listed, is_image}
use Rattle.rec_image.proofs.image.Image.of_listed.Goals as goal
use Rattle.rec_image.proofs.image.Image.of_listed.Goals.{After-heap_of}

image_is : (c : After-heap_of) → IsImage (image_of c.args.world.now c.args.numbering.now.list)
image_is c = is_image c.args.world.now c.args.numbering.now.list c.heap_of.ensures.kept c.requires.numbers (few_listed c.args.world.now c.args.numbering.now.list c.heap_of.ensures.kept c.requires.numbers)

pub invariant_of-result : goal.invariant_of-result
invariant_of-result c = record {
  image = subst (λ (v : ImageContents). IsImage v) (sym (contents_are c.args.world.now c.args.numbering.now.list (image_is c) c.heap_of.result.slots c.heap_of.result.fields c.heap_of.result.registers c.heap_of.result.mutators c.in_ok-nodes.nodes.items c.in_ok-nodes.targets.items c.in-Ok.registers.items
      c.heap_of.ensures.slots c.heap_of.ensures.fields c.heap_of.ensures.registers c.heap_of.ensures.mutators c.in_ok-nodes.ensures.nodes c.in_ok-nodes.ensures.fields c.in-Ok.ensures)) (image_is c);
  fields = fields_kept c.args.world.now c.args.numbering.now.list (image_is c) c.heap_of.result.fields c.in_ok-nodes.nodes.items c.in_ok-nodes.targets.items c.heap_of.ensures.fields c.in_ok-nodes.ensures.nodes c.in_ok-nodes.ensures.fields;
  registers = registers_kept c.args.world.now c.args.numbering.now.list (image_is c) c.heap_of.result.registers c.heap_of.result.mutators c.in-Ok.registers.items c.heap_of.ensures.registers c.heap_of.ensures.mutators c.in-Ok.ensures;
}

pub returns : goal.returns
returns c =
    contents_are c.args.world.now c.args.numbering.now.list (image_is (goal.at.returns c).After-heap_of) c.heap_of.result.slots c.heap_of.result.fields c.heap_of.result.registers c.heap_of.result.mutators c.in_ok-nodes.nodes.items c.in_ok-nodes.targets.items c.in-Ok.registers.items
    c.heap_of.ensures.slots c.heap_of.ensures.fields c.heap_of.ensures.registers c.heap_of.ensures.mutators c.in_ok-nodes.ensures.nodes c.in_ok-nodes.ensures.fields c.in-Ok.ensures
