-- What the heap behind loads leads where the heap's own words lead.
use Rattle.rec_core.proofs.BareLoads.{of_own_run}
use Rattle.rec_core.proofs.Dated.{end_explained}
use Rattle.rec_core.proofs.laws.outside_counts_are_of_own_words.Goals as goal

pub returns-clause-places : goal.returns-clause-places
returns-clause-places c = λ w moves config run begins. let (v, e) = end_explained w config run in (of_own_run v w e begins).places moves

pub returns-clause-passed : goal.returns-clause-passed
returns-clause-passed c = λ w moves number x config run begins fit same has. let (v, e) = end_explained w config run in (of_own_run v w e begins).passed moves fit same has number x

pub returns-clause-members : goal.returns-clause-members
returns-clause-members c = λ w moves number x config run begins fit same has. let (v, e) = end_explained w config run in (of_own_run v w e begins).members moves fit same has number x
