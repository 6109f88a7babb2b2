-- What the heap behind keeps tells what is freed.
use Rattle.rec_core.proofs.Freed.{freed_is_forgotten}
use Rattle.rec_core.proofs.Dated.{end_explained}
use Rattle.rec_core.proofs.laws.freed_slots_are_forgotten.Goals as goal

pub returns : goal.returns
returns c = λ w config run. let (v, e) = end_explained w config run in (v, e.bare, λ slot. freed_is_forgotten v slot e.kept)
