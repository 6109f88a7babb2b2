-- The contract of `refused_images_have_one_cause`: bytes are refused with one line and one kind.
use Rattle.rec_run.proofs.Resumed.{unresumed_once}
use Rattle.rec_run.proofs.laws.refused_images_have_one_cause.Goals as goal

pub returns : goal.returns
returns c = unresumed_once
