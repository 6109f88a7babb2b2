-- The slots are numbered in the image's order.
use Rattle.rec_image.proofs.Returning.{image_again}
use Rattle.rec_image.proofs.laws.restored_heaps_have_their_image.Goals as goal

pub returns : goal.returns
returns c = λ v log_entries policy slots image is numbers. image_again v log_entries policy image is slots numbers
