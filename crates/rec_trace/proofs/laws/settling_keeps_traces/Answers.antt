-- A heap that stands for the world before settling stands for it afterwards by the same numbers, so the reached slots keep their words.
use Rattle.rec_trace.proofs.Taken.{traced_taken}
use Rattle.rec_trace.proofs.Traced.{settled_many, settled_numbered}
use Rattle.rec_trace.proofs.laws.settling_keeps_traces.Goals as goal

pub returns-clause-same : goal.returns-clause-same
returns-clause-same c = settled_numbered

pub returns-clause-taken : goal.returns-clause-taken
returns-clause-taken c = λ before after told slots kept idle settled numbers. traced_taken after slots settled.settled (settled_numbered before after told slots kept idle settled numbers)

pub returns-clause-many : goal.returns-clause-many
returns-clause-many c = settled_many
