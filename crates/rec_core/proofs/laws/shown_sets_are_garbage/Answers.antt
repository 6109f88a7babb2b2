-- What the heap behind keeps tells that a set which is shown is garbage.
use Rattle.rec_core.proofs.Freed.{shown_is_gone}
use Rattle.rec_core.proofs.Dated.{end_explained}
use Rattle.rec_core.proofs.laws.shown_sets_are_garbage.Goals as goal

pub returns : goal.returns
returns c = λ w config run. let (v, e) = end_explained w config run in (v, e.bare, λ members slot passed member. shown_is_gone v members slot e.kept passed member)
