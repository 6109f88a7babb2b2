-- What the heap behind keeps tells which sets are garbage.
use Rattle.rec_core.proofs.Freed.{given_up_are_gone, passed_are_garbage}
use Rattle.rec_core.proofs.Dated.{end_explained}
use Rattle.rec_core.proofs.laws.sets_that_pass_are_garbage.Goals as goal

pub returns-clause-passed : goal.returns-clause-passed
returns-clause-passed c = λ w config run. let (v, e) = end_explained w config run in (v, e.bare, λ number. passed_are_garbage v number e.kept)

pub returns-clause-gone : goal.returns-clause-gone
returns-clause-gone c = λ w config run. let (v, e) = end_explained w config run in (v, e.bare, given_up_are_gone v e.kept)
