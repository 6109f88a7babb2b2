-- The world's image is that of the slots as they are numbered.
use Rattle.std.proofs.lemmas.Result.{IfOk-weaker}
use Rattle.rec_image.proofs.image.Image.of_world.Goals as goal

pub of_listed-image-requires : goal.of_listed-image-requires
of_listed-image-requires c = record { kept = c.in_ok-numbering.ensures.kept; numbers = c.in_ok-numbering.ensures.numbers }

pub returns-clause-image : goal.returns-clause-image
returns-clause-image c = IfOk-weaker c.of_listed-image.result _ _ (λ image is. (c.in_ok-numbering.numbering.list, c.in_ok-numbering.ensures.numbers, is)) c.of_listed-image.ensures
