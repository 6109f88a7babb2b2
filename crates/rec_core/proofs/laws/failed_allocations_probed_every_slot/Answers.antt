-- What a run keeps tells what a scan found.
use Rattle.rec_core.proofs.BareRuns.{end_kept}
use Rattle.rec_core.proofs.Scans.{fails_by_probes}
use Rattle.rec_core.proofs.laws.failed_allocations_probed_every_slot.Goals as goal

pub returns : goal.returns
returns c = λ w moves t reg label leaf told config run. fails_by_probes w moves t reg label leaf told (end_kept w config run)
