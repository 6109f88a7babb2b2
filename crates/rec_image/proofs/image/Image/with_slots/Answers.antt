-- Each object has a slot.
use Rattle.std.proofs.Common.{◌≤◌, length, subst, sym}
use Rattle.rec_image.specs.Fields.{contents}
use Rattle.rec_image.specs.Image.{ImageContents}
use Rattle.rec_image.proofs.Moving.{in_slots_image}
use Rattle.rec_image.proofs.image.Image.with_slots.Goals as goal

pub invariant_of-result : goal.invariant_of-result
invariant_of-result c = record {
  image = in_slots_image (contents c.self.inside) c.args.slots c.self.invariant.image c.requires.slots (subst (λ (v : ImageContents). length v.objects ≤ c.args.slots) (sym c.self.view_is) c.requires.room);
  fields = c.self.invariant.fields;
  registers = c.self.invariant.registers;
}
