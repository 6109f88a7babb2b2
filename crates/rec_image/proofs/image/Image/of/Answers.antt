-- What was read is an image.
use Rattle.rec_image.proofs.Rows.{kept}
use Rattle.rec_image.proofs.image.Image.of.Goals as goal

pub invariant_of-result : goal.invariant_of-result
invariant_of-result c = kept c.args.heap c.args.objects c.args.held c.requires.objects c.requires.held c.requires.all
