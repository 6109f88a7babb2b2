-- No more slots are listed than there are.
use Rattle.rec_world.proofs.Numbers.{few}
use Rattle.rec_world.proofs.numbering.Numbering.list.Goals as goal

pub returns-clause-few : goal.returns-clause-few
returns-clause-few c = rw (c.deref.ensures.value, ← c.self.view_is) (few _ _ _ c.self.invariant)
