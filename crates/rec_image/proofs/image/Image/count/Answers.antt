-- Each object has a label and a leaf mark.
use Rattle.std.proofs.Common.{◌≡◌, ◌∙◌, ap, arith, length, sym}
use Rattle.rec_image.specs.Image.{ImageContents}
use Rattle.rec_image.proofs.Adding.{length-objects}
use Rattle.rec_image.proofs.image.Image.count.Goals as goal

pub overflow_cast-result : goal.overflow_cast-result
overflow_cast-result c = omega (arith, c.len.ensures, length-objects c.self.inside.heap.fields c.self.inside.nodes.items c.self.inside.fields.items, c.self.invariant.image.few, c.self.invariant.image.sized.heap.most_slots)

pub returns : goal.returns
returns c = (let e : c.len.result ≡ length c.self.inside.nodes.items = omega (arith, c.len.ensures) in e) ∙ sym (length-objects c.self.inside.heap.fields c.self.inside.nodes.items c.self.inside.fields.items) ∙ ap (λ (v : ImageContents). length v.objects) c.self.view_is
