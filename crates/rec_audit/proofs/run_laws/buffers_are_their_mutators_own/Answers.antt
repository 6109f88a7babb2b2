-- Every move leaves each buffer its mutator's own, from an opening on.
use Rattle.std.proofs.Common.{subst}
use Rattle.rec_core.specs.Core.{opened}
use Rattle.rec_audit.specs.Logged.{HasOwnBuffers}
use Rattle.rec_core.proofs.BareRuns.{end_kept}
use Rattle.rec_audit.proofs.LoggedTurns.{moves_own, opened_own}
use Rattle.rec_core.proofs.Runs.{run_opened}
use Rattle.rec_audit.proofs.run_laws.buffers_are_their_mutators_own.Goals as goal

pub returns : goal.returns
returns c = λ config w is run. subst HasOwnBuffers run.2 (moves_own (opened config) run.0 (end_kept (opened config) is (run_opened config is)) run.1 (opened_own config is))
