-- The contract of `open`: what is known before the first line.
use Rattle.std.proofs.Common.{[], refl}
use Rattle.rec_audit.proofs.Grown.{told_none}
use Rattle.rec_audit.proofs.Knowing.{clean_none}
use Rattle.rec_audit.proofs.checker.Checker.open.Goals as goal

pub returns-clause-knows : goal.returns-clause-knows
returns-clause-knows c = record { clean = clean_none; form = refl; graph = c.in_ok-graph.ensures.graph [] told_none; sets = refl }
