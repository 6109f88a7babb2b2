-- The reached slots are the taken ones, and a trace lists just the reached ones, each once.
use Rattle.rec_trace.proofs.Taken.{traced_many, traced_taken}
use Rattle.rec_trace.proofs.laws.settled_heaps_are_traced.Goals as goal

pub returns-clause-taken : goal.returns-clause-taken
returns-clause-taken c = traced_taken

pub returns-clause-many : goal.returns-clause-many
returns-clause-many c = traced_many
