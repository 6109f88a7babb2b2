-- Touched slots aren't Orange, and others stay.
use Rattle.rec_counts.proofs.Touching.{batch_orange}
use Rattle.rec_collector.proofs.laws.batches_colour_what_they_name.Goals as goal

pub returns : goal.returns
returns c = batch_orange
