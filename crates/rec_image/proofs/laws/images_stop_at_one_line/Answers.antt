-- The contract of `images_stop_at_one_line`: bytes that are no image's text stop at one line.
use Rattle.rec_image.proofs.Uniqueness.{stops_once}
use Rattle.rec_image.proofs.laws.images_stop_at_one_line.Goals as goal

pub returns : goal.returns
returns c = stops_once
