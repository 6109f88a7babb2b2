-- The stop isn't refused, and no mutator works behind it.
use Rattle.std.proofs.Common.{sym, ◌∙◌}
use Rattle.rec_core.specs.Worked.{AreIdle}
use Rattle.rec_table.proofs.Stopped.{was_some}
use Rattle.rec_run.proofs.driving.stop.Goals as goal

pub returns-clause-idle : goal.returns-clause-idle
returns-clause-idle c = was_some c.stop.result AreIdle c.in-Some.world (sym c.ok.ensures.value ∙ c.in-Some.is) c.stop.ensures.idle
