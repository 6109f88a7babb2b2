-- What a heap of dated words keeps tells of its counts and sets.
use Rattle.rec_core.proofs.Freed.{freed_is_forgotten, given_up_are_gone, passed_are_garbage, shown_is_gone}
use Rattle.rec_core.proofs.Reach.{counted_so}
use Rattle.rec_core.proofs.laws.dated_heaps_count_late.Goals as goal

pub returns-clause-counts : goal.returns-clause-counts
returns-clause-counts c = λ v slot kept. counted_so v slot kept

pub returns-clause-passed : goal.returns-clause-passed
returns-clause-passed c = λ v number kept. passed_are_garbage v number kept

pub returns-clause-gone : goal.returns-clause-gone
returns-clause-gone c = given_up_are_gone

pub returns-clause-forgotten : goal.returns-clause-forgotten
returns-clause-forgotten c = λ v slot kept. freed_is_forgotten v slot kept

pub returns-clause-shown : goal.returns-clause-shown
returns-clause-shown c = λ v members slot kept passed member. shown_is_gone v members slot kept passed member
