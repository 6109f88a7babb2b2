-- What the heap behind keeps tells the counts.
use Rattle.rec_core.proofs.Reach.{counted_so}
use Rattle.rec_core.proofs.Dated.{end_explained}
use Rattle.rec_core.proofs.laws.true_counts_are_the_formula.Goals as goal

pub returns : goal.returns
returns c = λ w config run. let (v, e) = end_explained w config run in (v, e.bare, λ slot. counted_so v slot e.kept)
