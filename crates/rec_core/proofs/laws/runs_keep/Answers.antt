-- What holds at the end of every run of a heap with its collector.
use Rattle.rec_core.proofs.BareRuns.{bared}
use Rattle.rec_core.proofs.Dated.{run_explained}
use Rattle.rec_core.proofs.laws.runs_keep.Goals as goal

pub returns : goal.returns
returns c = λ start moves end is run. let (v, e) = run_explained start moves end is run in bared v end e
