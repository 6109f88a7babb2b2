-- What the heap behind keeps tells the zeros.
use Rattle.std.proofs.Common.{subst}
use Rattle.rec_collector.specs.Zeros.{AreTheZeros}
use Rattle.rec_collector.proofs.Always.{machine_exact}
use Rattle.rec_core.specs.Core.{Core}
use Rattle.rec_core.proofs.Dated.{end_explained}
use Rattle.rec_core.proofs.laws.zeros_are_exact.Goals as goal

pub returns : goal.returns
returns c = λ w config run. let (v, e) = end_explained w config run in subst (λ (u : Core). AreTheZeros u.collector.counts) e.bare (machine_exact v.collector e.kept.collector.machine)
