-- As many as were numbered.
use Rattle.rec_report.proofs.Summed.{counted}
use Rattle.rec_report.proofs.summing.count_live.Goals as goal

pub returns : goal.returns
returns c = counted c.args.world.now c.in_ok-numbering.numbering c.list.result.now c.in_ok-numbering.ensures c.list.ensures.list
