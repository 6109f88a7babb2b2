-- No level of a new index has a member.
use Rattle.rec_index.proofs.Levels.{empty_holds, empty_whole}
use Rattle.rec_index.proofs.index.Index.open.Goals as goal

pub invariant_of-result : goal.invariant_of-result
invariant_of-result c = empty_whole c.in_ok-open.field-0 c.in_ok-open-2.field-0 c.in_ok-open-3.field-0 c.in_ok-open.ensures c.in_ok-open-2.ensures c.in_ok-open-3.ensures

pub returns : goal.returns
returns c = λ s. empty_holds c.in_ok-open.field-0 1024 s c.in_ok-open.ensures
