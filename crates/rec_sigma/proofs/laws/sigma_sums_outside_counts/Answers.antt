-- The contract of `sigma_sums_outside_counts`: what `sigma` sums up once all sets are prepared, and nothing was lowered yet, are the members' outside counts.
use Rattle.rec_sigma.proofs.Bounds.{sums_outside}
use Rattle.rec_sigma.proofs.laws.sigma_sums_outside_counts.Goals as goal

pub returns : goal.returns
returns c = sums_outside
